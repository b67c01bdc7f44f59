-- The small network is one.
use Rattle.std.proofs.Common.{◌≡◌, ◌∙◌, ℕ, zero, suc, ◌<◌, List, [], ◌∷◌, length, refl, sym, ap, arith, Ok}
use Rattle.std.specs.Prelude.{All}
use Rattle.std.proofs.lemmas.List.Elements.{All-cons, All-nil}
use Rattle.ar_base.specs.Bytes.{AreBytes}
use Rattle.ar_message.specs.Filling.{filled}
use Rattle.ar_message.specs.declared.sent.Sent.{Sent}
use Rattle.ar_safety.specs.Held.{records_of}
use Rattle.ar_statement.specs.Claims.{authority_party, log_party}
use Rattle.epoch_log.specs.Record.{LogRecord}
use Rattle.lms_tree.specs.Key.{public_of}
use Rattle.lms_tree.specs.declared.public_key.LmsPublic.{LmsPublic}
use Rattle.log_core.specs.Keyed.{signed_answer}
use Rattle.log_core.specs.Passing.{passing_reply, passing_row}
use Rattle.log_core.specs.Row.{row}
use Rattle.log_core.specs.State.{LogAnswer, passes}
use Rattle.log_journal.specs.Inputs.{input_text}
use Rattle.log_keeper.specs.Keeping as log_keeping
use Rattle.party_keys.specs.Directory.{IsDirectory, keys_of}
use Rattle.process_safety.specs.Examples.{authority_key, directory_of_three, first_statement, log_began, log_passed, one_passed, small_key, three_began}
use Rattle.process_safety.specs.Network.{IsNetwork, held_in}
use Rattle.process_safety.proofs.Either.{answer_of}
use Rattle.process_safety.proofs.Going.{log-goes-on, new-is}
use Rattle.process_safety.proofs.Kept.{honest-there, log-record}

-- of each of three parties a key is known
three-keys : (a b c : LmsPublic) → All (λ (keys : List LmsPublic). 0 < length keys) ((a ∷ []) ∷ (b ∷ []) ∷ (c ∷ []) ∷ [])
three-keys a b c =
    let P : List LmsPublic → Type 0 = λ keys. 0 < length keys in
    All-cons P (a ∷ []) ((b ∷ []) ∷ (c ∷ []) ∷ []) (omega arith)
    (All-cons P (b ∷ []) ((c ∷ []) ∷ []) (omega arith) (All-cons P (c ∷ []) [] (omega arith) (All-nil P)))

three-is : IsDirectory directory_of_three
three-is = record {
  logs_least = omega arith;
  logs_most = omega arith;
  authorities_least = omega arith;
  authorities_most = omega arith;
  quorum_least = omega arith;
  quorum_most = omega arith;
  logs_keys = three-keys (public_of (small_key 0)) (public_of (small_key 1)) (public_of (small_key 2));
  authorities_keys = three-keys (public_of (authority_key 0)) (public_of (authority_key 1)) (public_of (authority_key 2));
}

log-first : (number : ℕ) → number < 3 → keys_of directory_of_three (log_party number) ≡ public_of (small_key number) ∷ []
log-first zero less = refl
log-first (suc zero) less = refl
log-first (suc (suc zero)) less = refl
log-first (suc (suc (suc number))) less = absurd (omega (arith, less))

authority-first : (number : ℕ) → number < 3 → keys_of directory_of_three (authority_party number) ≡ public_of (authority_key number) ∷ []
authority-first zero less = refl
authority-first (suc zero) less = refl
authority-first (suc (suc zero)) less = refl
authority-first (suc (suc (suc number))) less = absurd (omega (arith, less))

began-is : IsNetwork three_began
began-is =
    new-is directory_of_three [] small_key authority_key (record {
      is_directory = three-is;
      logs = λ number honest. log-first number (honest-there three_began (log_party number) honest).0;
      authorities = λ number honest. authority-first number (honest-there three_began (authority_party number) honest).0;
    })

-- the row of the order to pass
passes-row : row log_began.core passes ≡ Ok (passing_reply log_began.core)
unfolding row passing_row
passes-row = refl

passed-takes : (sent : Sent) → sent ≡ filled log_began.keys (passing_reply log_began.core).unsigned → log_keeping.takes log_began (input_text passes) sent log_passed
passed-takes sent is = record {
  input = passes;
  says = refl;
  steps = record {
    own = tt;
    answer = ap (λ (a : LogAnswer). signed_answer log_began.keys a) passes-row ∙ ap (λ (s : Sent). answer_of ((passing_reply log_began.core).after, s)) (sym is);
    keys_are = refl;
  };
}

one-byte : AreBytes (input_text passes)
one-byte zero = omega arith
one-byte (suc i) = omega arith

pub passed-is : IsNetwork one_passed
passed-is =
    let sent : Sent = filled log_began.keys (passing_reply log_began.core).unsigned in
    log-goes-on three_began 0 (input_text passes) sent log_passed began-is one-byte (passed-takes sent refl)

-- what it stated stands in the theorem's record
pub passed-stated : ((records_of (held_in one_passed)).logs 0).stated ≡ first_statement ∷ []
passed-stated = ap (λ (r : LogRecord). r.stated) (log-record one_passed 0 refl)
