-- The line `authorities`: all logs and authorities sit in their places, and all begin with one directory.
use Rattle.std.proofs.Common.{◌≡◌, ◌∙◌, ℕ, zero, suc, ◌+◌, ◌<◌, ◌≤◌, List, [], ◌∷◌, ◌++◌, All, append-nil, refl, sym, ap, subst, arith, Bool, true, false, Some, Ok, Err, is_none}
use Rattle.std.specs.Prelude.{filter, if◌then◌else◌, length, map, slice_get}
use Rattle.std.specs.List.{list_any, range_with_len}
use Rattle.std.specs.Result.{result_ok}
use Rattle.std.proofs.lemmas.List.{length-map}
use Rattle.std.proofs.lemmas.List.Elements.{All-nil}
use Rattle.std.proofs.lemmas.List.FromFn.{length-map-range_with_len}
use Rattle.ar_safety.specs.Held.{IsAccepting, AcceptedBytes, verdict_on}
use Rattle.ar_statement.specs.Claims.{authority_party, is_party, log_party}
use Rattle.ar_statement.specs.declared.party.Party.{Party}
use Rattle.ar_statement.specs.declared.party.Role.{Role}
use Rattle.ar_statement.specs.declared.party.Role.TheVariants as role
use Rattle.ar_world.specs.ar_nodes.Finding.{honest_in}
use Rattle.ar_world.specs.ar_nodes.Finding.{named}
use Rattle.ar_world.specs.Founding.{peopled}
use Rattle.ar_world.specs.ar_founding.Founding.{fresh_log, fresh_logs, genesis_of, new_authorities, founded_authority}
use Rattle.ar_world.specs.ar_founding.FirstKeys.{key_made, keys_made}
use Rattle.ar_world.specs.ar_founding.FirstKeys.{Setup, key_for, keys_for}
use Rattle.ar_world.specs.State.{World}
use Rattle.lms_tree.specs.Key.{public_of}
use Rattle.lms_tree.specs.KeyParts.{KeyParts}
use Rattle.lms_tree.specs.declared.public_key.LmsPublic.{LmsPublic}
use Rattle.party_keys.specs.Directory.{Directory, directory_of, directory_with, first_keys, is_party_count, is_quorum, keys_at, keys_of}
use Rattle.party_keys.specs.declared.fault.DirectoryFault.{DirectoryFault}
use Rattle.party_keys.specs.declared.fault.DirectoryFault.TheVariants.{Authorities, Logs, Quorum}
use Rattle.ar_world.proofs.EachLine.{is_marked}
use Rattle.run_safety.proofs.Quiet.{quiet}
use Rattle.run_safety.specs.Seats.{AreSeated, IsAuthorityOf, IsLogOf, honest_count}
use Rattle.ar_world.proofs.ar_nodes.Spots.{honest-below}
use Rattle.run_safety.proofs.Parts.{Bare, Makes, SeatedIn, Stands, part_of, told_by, told_in}

-- ---- the first directory

-- a directory that is made has these keys
pub made-of : (logs authorities : List LmsPublic) (q : ℕ) (keys : Directory) → result_ok (directory_of logs authorities q) ≡ Some keys → directory_with logs authorities q ≡ keys
made-of logs authorities q keys h = by (is_party_count (length logs)) (is_party_count (length authorities)) (is_quorum q (length logs)) h
  where
    by : (many some bound : Bool)
        → result_ok {E = DirectoryFault} (if many then (if some then (if bound then Ok (directory_with logs authorities q) else Err Quorum) else Err Authorities) else Err Logs) ≡ Some keys
        → directory_with logs authorities q ≡ keys
    by true true true h = cc
    by true true false h = absurd cc
    by true false bound h = absurd cc
    by false some bound h = absurd cc

-- one key of each of so many parties
first-long : (setup : Setup) (r : Role) (count : ℕ) → length (first_keys (map public_of (keys_for setup r count))) ≡ count
first-long setup r count =
    length-map (map public_of (keys_for setup r count)) (λ key. key ∷ []) ∙ length-map (keys_for setup r count) public_of
    ∙ length-map-range_with_len (key_for setup r) 0 count

-- the one key that is known of a party is that of its own
known-from : (f : ℕ → KeyParts) (a n m : ℕ) → m < n → keys_at (first_keys (map public_of (map f (range_with_len a n)))) m ≡ public_of (f (a + m)) ∷ []
known-from f a zero m less = absurd (omega (arith, less))
known-from f a (suc n) zero less = let e : a ≡ a + 0 = omega arith in ap (λ k. public_of (f k) ∷ []) e
known-from f a (suc n) (suc m) less =
    let e : a + 1 + m ≡ a + suc m = omega arith in
    known-from f (a + 1) n m (omega (arith, less)) ∙ ap (λ k. public_of (f k) ∷ []) e

pub known-there : (setup : Setup) (r : Role) (count n : ℕ) → n < count → keys_at (first_keys (map public_of (keys_for setup r count))) n ≡ public_of (key_for setup r n) ∷ []
known-there setup r count n less = let e : 0 + n ≡ n = omega arith in known-from (key_for setup r) 0 count n less ∙ ap (λ k. public_of (key_for setup r k) ∷ []) e

-- so many logs and authorities as the setup and the line say
pub genesis-long : (setup : Setup) (count : ℕ) (genesis : Directory) → genesis_of setup count ≡ Some genesis
    → (length genesis.logs ≡ setup.logs) × (length genesis.authorities ≡ count)
genesis-long setup count genesis h =
    let is = made-of (map public_of (keys_for setup role.LogServer setup.logs)) (map public_of (keys_for setup role.Authority count)) setup.quorum genesis h
    in (
      ap (λ (d : Directory). length d.logs) (sym is) ∙ first-long setup role.LogServer setup.logs,
      ap (λ (d : Directory). length d.authorities) (sym is) ∙ first-long setup role.Authority count,
    )

-- ---- places

-- what is made for each number stands there
pub made-there : {X : Type 0} (f : ℕ → X) (a n m : ℕ) (x : X) → honest_in (map (λ k. Some (f k)) (range_with_len a n)) m ≡ Some x → x ≡ f (a + m)
made-there f a zero m x h = absurd cc
made-there f a (suc n) zero x h = let e : a ≡ a + 0 = omega arith in let is : f a ≡ x = cc in sym is ∙ ap f e
made-there f a (suc n) (suc m) x h = let e : a + 1 + m ≡ a + suc m = omega arith in made-there f (a + 1) n m x h ∙ ap f e

-- and each place has one
made-full : {X : Type 0} (f : ℕ → X) (a n m : ℕ) → m < n → is_none (honest_in (map (λ k. Some (f k)) (range_with_len a n)) m) ≡ false
made-full f a zero m less = absurd (omega (arith, less))
made-full f a (suc n) zero less = refl
made-full f a (suc n) (suc m) less = made-full f (a + 1) n m (omega (arith, less))

-- all of them are honest
count-made : {X : Type 0} (f : ℕ → X) (a n : ℕ) → honest_count (map (λ k. Some (f k)) (range_with_len a n)) ≡ length (map (λ k. Some (f k)) (range_with_len a n))
count-made f a zero = refl
count-made f a (suc n) = ap suc (count-made f (a + 1) n)

-- made for each number, all are seated
made-seated : {X : Type 0} (party : ℕ → Party) (dishonest : List Party) (count : ℕ) (sits : ℕ → X → Type 0) (f : ℕ → X) → dishonest ≡ [] → ((n : ℕ) → n < count → sits n (f n))
    → AreSeated party dishonest count sits (map (λ k. Some (f k)) (range_with_len 0 count))
made-seated party dishonest count sits f none each = record {
  all = length-map-range_with_len (λ k. Some (f k)) 0 count;
  own = λ n node there.
      let same : node ≡ f n = made-there f 0 count n node there ∙ ap f (let e : 0 + n ≡ n = omega arith in e) in
      let less : n < count = subst (λ long. n < long) (length-map-range_with_len (λ k. Some (f k)) 0 count) (honest-below _ n node there) in
      subst (sits n) (sym same) (each n less);
  empty = λ n less. made-full f 0 count n less ∙ sym (ap (list_any (is_party (party n))) none);
}

-- ---- `authorities`

made-quiet : (setup : Setup) (r : Role) (numbers : List ℕ)
    → filter is_marked (map (λ number. key_made (record { role = r; number = number }) (key_for setup r number)) numbers) ≡ []
made-quiet setup r [] = refl
made-quiet setup r (number ∷ numbers) = made-quiet setup r numbers

pub keys-quiet : (setup : Setup) (r : Role) (count : ℕ) → filter is_marked (keys_made setup r count) ≡ []
keys-quiet setup r count = made-quiet setup r (range_with_len 0 count)

-- nothing is held
none-taken : (clients : Directory) (judged : List AcceptedBytes) → judged ≡ [] → All (λ t. IsAccepting (verdict_on clients t)) judged
none-taken clients judged none = subst (All (λ t. IsAccepting (verdict_on clients t))) (sym none) (All-nil (λ t. IsAccepting (verdict_on clients t)))

peopled-seated : (w : World) (count : ℕ) (genesis : Directory) → genesis_of w.setup count ≡ Some genesis → Bare (part_of w)
    → SeatedIn (part_of (peopled w count genesis).0)
peopled-seated w count genesis made bare =
    let long = genesis-long w.setup count genesis made in
    let is = made-of (map public_of (keys_for w.setup role.LogServer w.setup.logs)) (map public_of (keys_for w.setup role.Authority count)) w.setup.quorum genesis made in
    record {
      council = refl;
      known = λ who key is. is;
      logs = subst (λ n. AreSeated log_party (part_of w).dishonest n (IsLogOf genesis) (fresh_logs w.setup genesis)) (sym long.0)
          (made-seated log_party (part_of w).dishonest w.setup.logs (IsLogOf genesis)
          (λ number. fresh_log genesis number (key_for w.setup role.LogServer number)) bare.dishonest
          (λ n less. record {
            number = refl;
            council = refl;
            key = record {
              first = key_for w.setup role.LogServer n;
              is = refl;
              same = ap (λ (d : Directory). slice_get (keys_of d (log_party n)) 0) (sym is)
                  ∙ ap (λ keys. slice_get keys 0) (known-there w.setup role.LogServer w.setup.logs n less);
            };
          }));
      authorities = subst (λ n. AreSeated authority_party (part_of w).dishonest n (IsAuthorityOf genesis) (new_authorities w.setup genesis w.checks count)) (sym long.1)
          (made-seated authority_party (part_of w).dishonest count (IsAuthorityOf genesis)
          (λ number. founded_authority genesis number (key_for w.setup role.Authority number) (slice_get w.checks number)) bare.dishonest
          (λ n less. record {
            number = refl;
            council = refl;
            key = record {
              first = key_for w.setup role.Authority n;
              is = refl;
              same = ap (λ (d : Directory). slice_get (keys_of d (authority_party n)) 0) (sym is)
                  ∙ ap (λ keys. slice_get keys 0) (known-there w.setup role.Authority count n less);
            };
          }));
      whole =
          let none : length (part_of w).dishonest ≡ 0 = ap length bare.dishonest in
          let logs : honest_count (fresh_logs w.setup genesis) ≡ length (fresh_logs w.setup genesis) = count-made (λ number. fresh_log genesis number (key_for w.setup role.LogServer number)) 0 w.setup.logs in
          let authorities : honest_count (new_authorities w.setup genesis w.checks count) ≡ length (new_authorities w.setup genesis w.checks count) =
          count-made (λ number. founded_authority genesis number (key_for w.setup role.Authority number) (slice_get w.checks number)) 0 count in
          omega (arith, none, logs, authorities);
      taken = none-taken genesis w.judged bare.judged;
    }

-- nothing is told where nothing is held
none-told : (clients : Directory) (judged : List AcceptedBytes) → judged ≡ [] → map (told_by clients) judged ≡ []
none-told clients judged none = ap (map (told_by clients)) none

-- before the line nobody is dishonest, and nothing was accepted
pub peopled-makes : (w : World) (count : ℕ) (genesis : Directory) → genesis_of w.setup count ≡ Some genesis → (Stands (part_of w) → Bare (part_of w)) → Makes w (peopled w count genesis)
peopled-makes w count genesis made bare = record {
  phase = refl;
  keeps = record {
    stands = λ s. record {
      seated = peopled-seated w count genesis made (bare s);
      bare = λ early. record { dishonest = (bare s).dishonest; judged = (bare s).judged };
      counted = s.counted;
      founded = subst (λ n. n ≤ 16) (sym (genesis-long w.setup count genesis made).0) s.counted;
    };
    told = λ s. ap (λ xs. told_in (part_of w) ++ xs) (quiet (keys_made w.setup role.Authority count) (keys-quiet w.setup role.Authority count)).0
        ∙ ap (λ xs. xs ++ []) (none-told w.clients w.judged (bare s).judged) ∙ sym (none-told genesis w.judged (bare s).judged);
    named = ap (λ xs. (part_of w).dishonest ++ xs) (quiet (keys_made w.setup role.Authority count) (keys-quiet w.setup role.Authority count)).1
        ∙ append-nil (part_of w).dishonest;
  };
}
