-- Lines of hex are messages to every party, and no other lines are.
use Rattle.std.proofs.Common.{◌≡◌, ◌≢◌, ℕ, Bool, true, false, cond, List, [], ◌∷◌, Option, Some, None, Result, Ok, Err, refl, sym, ap, ◌∙◌}
use Rattle.std.specs.Prelude.{codes}
use Rattle.std.specs.Str.{bytes_eq}
use Rattle.std.proofs.lemmas.Slice.Eq.{bytes_eq-Decides}
use Rattle.hex.specs.Hex.{encode_lower, encode_with}
use Rattle.ar_lines.specs.Forms.{bytes_of_hex}
use Rattle.ar_lines.specs.Lines.{is_text, words_of}
use Rattle.ar_lines.specs.declared.refusal.Reason.{Reason}
use Rattle.ar_lines.proofs.Respelled.{hex_own}
use Rattle.ar_lines.proofs.Spelled.{hex_is_word}
use Rattle.ar_lines.proofs.TextLaws.{words_of-last}
use Rattle.script_text.specs.Rows.{read_of}
use Rattle.script_text.specs.declared.line.Line.{Line}
use Rattle.script_text.specs.declared.line.Line.TheVariants as lines
use Rattle.owner_keeper.specs.Keeping.{OwnerStanding}
use Rattle.owner_keeper.specs.declared.order.OwnerOrder.TheVariants as owner_orders
use Rattle.party_desk.specs.Asking.{authority_asked, heard_in, heard_of, log_asked, message_or}
use Rattle.party_desk.specs.Owners.{owner_asked}
use Rattle.party_desk.specs.declared.reading.Heard.TheVariants as heard
use Rattle.authority_keeper.specs.declared.order.AuthorityOrder.TheVariants as orders
use Rattle.log_keeper.specs.declared.order.LogOrder.TheVariants as log_orders

-- ---- lines of hex

-- a word of hex is none that is of no hex
pub other_word : (line bytes word : List ℕ) → bytes_of_hex line ≡ Some bytes → bytes_of_hex word ≡ None → bytes_eq line word ≡ false
other_word line bytes word h none = by (bytes_eq line word) refl
  where
    by : (same : Bool) → bytes_eq line word ≡ same → same ≡ false
    by false e = refl
    by true e = absurd (impossible (sym h ∙ ap bytes_of_hex ((bytes_eq-Decides line word).0 e) ∙ none))
      where
        impossible : Some bytes ≡ None → ⊥
        impossible f = cc

-- it is one word
pub one_word_of_hex : (line bytes : List ℕ) → bytes_of_hex line ≡ Some bytes → words_of line ≡ line ∷ []
one_word_of_hex line bytes h =
    let own = hex_own line bytes h in
    ap words_of (sym own.0) ∙ words_of-last (encode_lower bytes) (hex_is_word bytes own.1) ∙ ap (λ w. w ∷ []) own.0

-- some bytes are some digits
none_of_bytes : (bytes : List ℕ) → bytes ≢ [] → encode_lower bytes ≡ [] → ⊥
unfolding encode_with
none_of_bytes [] some h = some refl
none_of_bytes (byte ∷ bytes) some h = cc

-- any party hears its message
pub heard_hex : (line bytes : List ℕ) → bytes_of_hex line ≡ Some bytes → bytes ≢ [] → heard_in line ≡ Ok (heard.Message bytes)
heard_hex [] bytes h some = absurd (none_of_bytes bytes some (hex_own [] bytes h).0)
heard_hex (byte ∷ rest) bytes h some = rw h refl

-- ---- and no others

-- what a line of a script says is no message
no_message : (read : Result (Option Line) Reason) (bytes : List ℕ) → heard_of read ≡ Ok (heard.Message bytes) → ⊥
no_message (Ok None) bytes h = cc
no_message (Ok (Some (lines.Event event))) bytes h = cc
no_message (Ok (Some line)) bytes h = cc
no_message (Err reason) bytes h = cc

-- a message is the hex that the line is
message_alone : (read : Result (Option Line) Reason) (hex : Option (List ℕ)) (bytes : List ℕ) → message_or (heard_of read) hex ≡ Ok (heard.Message bytes) → hex ≡ Some bytes
message_alone read (Some one) bytes h = cc
message_alone read None bytes h = absurd (no_message read bytes h)

pub only_hex : (line bytes : List ℕ) → heard_in line ≡ Ok (heard.Message bytes) → bytes_of_hex line ≡ Some bytes
only_hex [] bytes h = absurd cc
only_hex (byte ∷ rest) bytes h = message_alone (read_of (byte ∷ rest)) (bytes_of_hex (byte ∷ rest)) bytes h

-- ---- what it asks of each party

pub log_takes : (number : ℕ) (line bytes : List ℕ) → bytes_of_hex line ≡ Some bytes → bytes ≢ [] → log_asked number line ≡ Ok (Some (log_orders.Take bytes))
log_takes number line bytes h some = rw (heard_hex line bytes h some) refl

-- both ways lead to one
either : {T : Type 0} (test : Bool) (x : T) → cond test x x ≡ x
either true x = refl
either false x = refl

pub authority_takes : (number : ℕ) (line bytes : List ℕ) → bytes_of_hex line ≡ Some bytes → bytes ≢ [] → authority_asked number line ≡ Ok (Some (orders.Take bytes))
authority_takes number line bytes h some =
    rw (heard_hex line bytes h some, one_word_of_hex line bytes h, other_word line bytes (codes "teach") h refl, other_word line bytes (codes "forget") h refl)
    (either (is_text line) (Ok (Some (orders.Take bytes))))

pub owner_takes : (party : OwnerStanding) (line bytes : List ℕ) → bytes_of_hex line ≡ Some bytes → bytes ≢ [] → owner_asked party line ≡ Ok (Some (owner_orders.Take bytes))
owner_takes party line bytes h some =
    rw (heard_hex line bytes h some, one_word_of_hex line bytes h, other_word line bytes (codes "draft") h refl, other_word line bytes (codes "attach") h refl, other_word line bytes (codes "allow") h refl, other_word line bytes (codes "disallow") h refl, other_word line bytes (codes "staple") h refl, other_word line bytes (codes "leaves") h refl)
    (either (is_text line) (Ok (Some (owner_orders.Take bytes))))
