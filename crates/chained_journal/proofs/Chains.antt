-- Equal chains are of equal texts, unless two strings collide.
use Rattle.std.proofs.Common.{◌≡◌, ◌≢◌, ◌⊎◌, inl, inr, ⊎_elim, ℕ, ◌-◌, ◌<◌, ◌≤◌, List, [], ◌∷◌, ◌++◌, length, get_or, take, drop, refl, sym, ◌∙◌, ap, subst, arith, length-drop, take-append-drop}
use Rattle.std.proofs.lemmas.List.{append_cancel_left}
use Rattle.std.proofs.lemmas.Bool.{cases_lt}
use Rattle.std.specs.Int.{w32}
use Rattle.ar_base.specs.Apart.{IsIn}
use Rattle.ar_bytes.specs.RoundTrip.{number_text}
use Rattle.sha2.proofs.Facts256.{length-sha256}
use Rattle.sha2.specs.Sha256.{sha256}
use Rattle.chained_journal.specs.Damage.{Collide, strings_of, text_strings}
use Rattle.chained_journal.specs.Journal.{chained, link, start, text_string, title_string}
use Rattle.chained_journal.specs.declared.title.Title.{Title}
use Rattle.chained_journal.proofs.Changed.{collide-more}
use Rattle.chained_journal.proofs.Journals.{one_or_two}
use Rattle.chained_journal.proofs.Splits.{fronts, rests, same_size}

-- ---- texts in two parts

pub chained-append : (chain : List ℕ) (texts more : List (List ℕ)) → chained chain (texts ++ more) ≡ chained (chained chain texts) more
chained-append chain [] more = refl
chained-append chain (t ∷ texts) more = chained-append (link chain t) texts more

in-back : (chain : List ℕ) (texts more : List (List ℕ)) (x : List ℕ) → IsIn (text_strings (chained chain texts) more) x → IsIn (text_strings chain (texts ++ more)) x
in-back chain [] more x is = is
in-back chain (t ∷ texts) more x is = inr (in-back (link chain t) texts more x is)

pub in-front : (chain : List ℕ) (texts more : List (List ℕ)) (x : List ℕ) → IsIn (text_strings chain texts) x → IsIn (text_strings chain (texts ++ more)) x
in-front chain [] more x is = absurd is
in-front chain (t ∷ texts) more x (inl is) = inl is
in-front chain (t ∷ texts) more x (inr is) = inr (in-front (link chain t) texts more x is)

-- ---- as many texts

-- what equal chains come from
pub record Agree (chain other : List ℕ) (texts others : List (List ℕ)) : Type 0 where
  pub chains : chain ≡ other
  pub histories : texts ≡ others

text-parts : (chain other t u : List ℕ) → length chain ≡ length other → text_string chain t ≡ text_string other u → (chain ≡ other) × (t ≡ u)
text-parts chain other t u size same =
    let tails : chain ++ (number_text w32 (length t) ++ t) ≡ other ++ (number_text w32 (length u) ++ u) = append_cancel_left (97 ∷ []) _ _ same in
    let numbers : number_text w32 (length t) ++ t ≡ number_text w32 (length u) ++ u = rests chain other _ _ size tails in
    (fronts chain other _ _ size tails, rests (number_text w32 (length t)) (number_text w32 (length u)) t u (same_size (length t) (length u)) numbers)

link-size : (chain other t u : List ℕ) → length (link chain t) ≡ length (link other u)
link-size chain other t u = length-sha256 (text_string chain t) ∙ sym (length-sha256 (text_string other u))

pub as_many : (chain other : List ℕ) (texts others : List (List ℕ)) → length chain ≡ length other → length texts ≡ length others → chained chain texts ≡ chained other others
    → Agree chain other texts others ⊎ Collide (text_strings chain texts) (text_strings other others)
as_many chain other [] [] size many same = inl (record { chains = same; histories = refl })
as_many chain other [] (u ∷ us) size many same = absurd (omega (arith, many))
as_many chain other (t ∷ ts) [] size many same = absurd (omega (arith, many))
as_many chain other (t ∷ ts) (u ∷ us) size many same =
    elim (as_many (link chain t) (link other u) ts us (link-size chain other t u) (omega (arith, many)) same) [
      | inl agree ↦ elim (one_or_two (text_string chain t) (text_string other u)) [
        | inl one ↦
            let parts = text-parts chain other t u size one in
            inl (record { chains = parts.0; histories = ap (λ (x : List ℕ). x ∷ ts) parts.1 ∙ ap (λ (xs : List (List ℕ)). u ∷ xs) agree.histories })
        | inr two ↦ inr (record { one = text_string chain t; other = text_string other u; in_ones = inl refl; in_others = inl refl; apart = two; same = agree.chains })
      ]
      | inr collide ↦ inr (collide-more (text_string chain t) (text_string other u) (text_strings (link chain t) ts) (text_strings (link other u) us) collide)
    ]

-- ---- more texts

-- the last string that is hashed for some texts
pub record IsLast (chain : List ℕ) (texts : List (List ℕ)) (string : List ℕ) : Type 0 where
  pub among : IsIn (text_strings chain texts) string
  pub rest : List ℕ
  pub tagged : string ≡ 97 ∷ rest
  pub digest : chained chain texts ≡ sha256 string

last_string : (chain t : List ℕ) (ts : List (List ℕ)) → (string : List ℕ) × IsLast chain (t ∷ ts) string
last_string chain t [] = (text_string chain t, record { among = inl refl; rest = chain ++ (number_text w32 (length t) ++ t); tagged = refl; digest = refl })
last_string chain t (u ∷ us) =
    let later = last_string (link chain t) u us in
    (later.0, record { among = inr later.1.among; rest = later.1.rest; tagged = later.1.tagged; digest = later.1.digest })

-- the chain of a journal with no texts is none of some
start_apart : (title : Title) (t : List ℕ) (ts : List (List ℕ)) → start title ≡ chained (start title) (t ∷ ts)
    → (string : List ℕ) × IsIn (text_strings (start title) (t ∷ ts)) string × (title_string title ≢ string) × (sha256 (title_string title) ≡ sha256 string)
start_apart title t ts same =
    let last = last_string (start title) t ts in
    (last.0, last.1.among, (λ (e : title_string title ≡ last.0). let heads : 96 ∷ (title.seal ++ title.header) ≡ 97 ∷ last.1.rest = e ∙ last.1.tagged in let one : 96 ≡ 97 = ap (λ (l : List ℕ). get_or l 0 0) heads in absurd (omega (arith, one))), same ∙ last.1.digest)

flipped : (ones others : List (List ℕ)) → Collide ones others → Collide others ones
flipped ones others c = record { one = c.other; other = c.one; in_ones = c.in_others; in_others = c.in_ones; apart = λ (e : c.other ≡ c.one). c.apart (sym e); same = sym c.same }

-- of a history that is no shorter
no_shorter : (title : Title) (texts front more : List (List ℕ)) → length texts ≡ length more → chained (start title) texts ≡ chained (start title) (front ++ more)
    → (texts ≡ front ++ more) ⊎ Collide (strings_of title texts) (strings_of title (front ++ more))
no_shorter title texts [] more many same = elim (as_many (start title) (start title) texts more refl many same) [
  | inl agree ↦ inl agree.histories
  | inr c ↦ inr (record { one = c.one; other = c.other; in_ones = inr c.in_ones; in_others = inr c.in_others; apart = c.apart; same = c.same })
]
no_shorter title texts (t ∷ ts) more many same =
    let front : List (List ℕ) = t ∷ ts in
    let size : length (start title) ≡ length (chained (start title) front) = length-sha256 (title_string title) ∙ sym (ap length (last_string (start title) t ts).1.digest ∙ length-sha256 (last_string (start title) t ts).0) in
    elim (as_many (start title) (chained (start title) front) texts more size many (same ∙ chained-append (start title) front more)) [
      | inl agree ↦
          let found = start_apart title t ts agree.chains in
          inr (record { one = title_string title; other = found.0; in_ones = inl refl; in_others = inr (in-front (start title) front more found.0 found.1); apart = found.2; same = found.3 })
      | inr c ↦ inr (record { one = c.one; other = c.other; in_ones = inr c.in_ones; in_others = inr (in-back (start title) front more c.other c.in_others); apart = c.apart; same = c.same })
    ]

pub one_history : (title : Title) (texts others : List (List ℕ)) → chained (start title) texts ≡ chained (start title) others
    → (texts ≡ others) ⊎ Collide (strings_of title texts) (strings_of title others)
one_history title texts others same = ⊎_elim
    (λ (shorter : length texts < length others). from-shorter texts others (omega (arith, shorter)) same)
    (λ (longer : length others ≤ length texts). ⊎_elim
    (λ (e : others ≡ texts). inl (sym e))
    (λ (c : Collide (strings_of title others) (strings_of title texts)). inr (flipped (strings_of title others) (strings_of title texts) c))
    (from-shorter others texts longer (sym same)))
    (cases_lt (length texts) (length others))
  where
    from-shorter : (ones many : List (List ℕ)) → length ones ≤ length many → chained (start title) ones ≡ chained (start title) many
        → (ones ≡ many) ⊎ Collide (strings_of title ones) (strings_of title many)
    from-shorter ones many short alike =
        let n : ℕ = length many - length ones in
        let front : List (List ℕ) = take n many in
        let more : List (List ℕ) = drop n many in
        let whole : front ++ more ≡ many = take-append-drop n many in
        let size : length ones ≡ length more = omega (arith, short, length-drop n many) in
        subst (λ (m : List (List ℕ)). (ones ≡ m) ⊎ Collide (strings_of title ones) (strings_of title m)) whole
        (no_shorter title ones front more size (alike ∙ ap (chained (start title)) (sym whole)))
