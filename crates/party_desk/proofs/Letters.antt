-- The line of a letter has three words, and no other letter has it.
use Rattle.std.proofs.Common.{◌≡◌, ℕ, true, List, [], ◌∷◌, ◌++◌, Some, refl, sym, ap, ◌∙◌, append_assoc, arith}
use Rattle.std.specs.Prelude.{codes}
use Rattle.std.specs.Fmt.{decimal}
use Rattle.std.proofs.lemmas.Option.{same_Some}
use Rattle.hex.specs.Hex.{IsBytes, encode_lower}
use Rattle.ar_lines.specs.Forms.{bytes_of_hex}
use Rattle.ar_lines.specs.Lines.{is_text, lines_of, words_of}
use Rattle.ar_lines.specs.Parties.{party_of, party_word}
use Rattle.ar_lines.proofs.LineLaws.{lines_of-empty}
use Rattle.ar_lines.proofs.PartyWords.{party_is_read}
use Rattle.ar_lines.proofs.Spelled.{bytes_of_hex-encode, decimal_is_word, hex_is_word}
use Rattle.ar_lines.proofs.TextLaws.{is_word, lines_of-first, text_joined, word_is_text, words_of-first, words_of-last}
use Rattle.ar_message.specs.Sending.{Letter}
use Rattle.ar_message.specs.declared.address.Address.{Address}
use Rattle.ar_message.specs.declared.address.Address.TheVariants.{Logs, One}
use Rattle.ar_statement.specs.declared.party.Party.{Party}
use Rattle.ar_statement.specs.declared.party.Role.{Role}
use Rattle.ar_statement.specs.declared.party.Role.TheVariants.{LogServer, Authority, Owner, Client}
use Rattle.party_desk.specs.Telling.{address_text, letter_line}
use Rattle.party_desk.specs.Written.{IsAddress, IsLetter}

-- ---- three words

-- a role's letter and a number are a word
member_is_word : (role : Role) (number : ℕ) → is_word (decimal number) ≡ true → is_word (party_word (record { role = role; number = number })) ≡ true
member_is_word LogServer number h = rw h refl
member_is_word Authority number h = rw h refl
member_is_word Owner number h = rw h refl
member_is_word Client number h = rw h refl

address_is_word : (to : Address) → IsAddress to → is_word (address_text to) ≡ true
address_is_word Logs h = refl
address_is_word (One party) h = member_is_word party.role party.number (decimal_is_word party.number (omega (arith, h)))

-- the line of a letter, without its newline
abbrev line_of_letter : Letter → List ℕ
line_of_letter letter = codes "send" ++ (32 ∷ (address_text letter.to ++ (32 ∷ encode_lower letter.bytes)))

ended : (letter : Letter) → letter_line letter ≡ line_of_letter letter ++ (10 ∷ [])
ended letter = ap (λ rest. codes "send " ++ rest) (sym (append_assoc (address_text letter.to) (32 ∷ encode_lower letter.bytes) (10 ∷ [])))

abbrev three_words : Letter → List (List ℕ)
three_words letter = codes "send" ∷ address_text letter.to ∷ encode_lower letter.bytes ∷ []

pub letter_is_read : (letter : Letter) → IsLetter letter → (line : List ℕ) × (lines_of (letter_line letter) ≡ line ∷ []) × (words_of line ≡ three_words letter)
letter_is_read letter h =
    let to = address_text letter.to in
    let hex = encode_lower letter.bytes in
    let t = address_is_word letter.to h.to in
    let b = hex_is_word letter.bytes h.bytes in
    let text : is_text (line_of_letter letter) ≡ true = text_joined (codes "send") (to ++ (32 ∷ hex)) refl (text_joined to hex (word_is_text to t) (word_is_text hex b)) in (
      line_of_letter letter,
      ap lines_of (ended letter) ∙ lines_of-first (line_of_letter letter) [] text ∙ ap (λ more. line_of_letter letter ∷ more) (lines_of-empty [] refl),
      words_of-first (codes "send") (to ++ (32 ∷ hex)) refl
          ∙ ap (λ ws. codes "send" ∷ ws) (words_of-first to hex t ∙ ap (λ ws. to ∷ ws) (words_of-last hex b)),
    )

-- ---- of one letter

-- `logs` is no party's word
no_party : (party : Party) → party_of (codes "logs") ≡ Some party → ⊥
unfolding party_of
no_party party h = cc

address_alone : (one other : Address) → IsAddress one → IsAddress other → address_text one ≡ address_text other → one ≡ other
address_alone Logs Logs g h e = refl
address_alone Logs (One party) g h e = absurd (no_party party (ap party_of e ∙ party_is_read party h))
address_alone (One party) Logs g h e = absurd (no_party party (ap party_of (sym e) ∙ party_is_read party g))
address_alone (One one) (One other) g h e = ap One (same_Some one other (sym (party_is_read one g) ∙ ap party_of e ∙ party_is_read other h))

bytes_alone : (one other : List ℕ) → IsBytes one → IsBytes other → encode_lower one ≡ encode_lower other → one ≡ other
bytes_alone one other g h e = same_Some one other (sym (bytes_of_hex-encode one g) ∙ ap bytes_of_hex e ∙ bytes_of_hex-encode other h)

-- words that are the same are so each
second : (a b c d e f : List ℕ) → (a ∷ b ∷ c ∷ []) ≡ (d ∷ e ∷ f ∷ []) → (b ≡ e) × (c ≡ f)
second a b c d e f h = (cc, cc)

first_line : (a b : List ℕ) → (a ∷ []) ≡ (b ∷ []) → a ≡ b
first_line a b h = cc

letter_of_parts : (one other : Letter) → one.to ≡ other.to → one.bytes ≡ other.bytes → one ≡ other
letter_of_parts one other a b = ap (λ to. letter to one.bytes) a ∙ ap (letter other.to) b
  where
    letter : Address → List ℕ → Letter
    letter to bytes = record { to = to; bytes = bytes }

pub letter_alone : (one other : Letter) → IsLetter one → IsLetter other → letter_line one ≡ letter_line other → one ≡ other
letter_alone one other g h e =
    let first = letter_is_read one g in
    let last = letter_is_read other h in
    let line : first.0 ≡ last.0 = first_line first.0 last.0 (sym first.1 ∙ ap lines_of e ∙ last.1) in
    let words = second _ _ _ _ _ _ (sym first.2 ∙ ap words_of line ∙ last.2) in
    letter_of_parts one other (address_alone one.to other.to g.to h.to words.0) (bytes_alone one.bytes other.bytes g.bytes h.bytes words.1)
