-- A network in which nobody did anything is one, and whatever its parties and clients do next leaves it one.
use Rattle.std.proofs.Common.{◌≡◌, ℕ, List, [], ◌∷◌, ◌++◌, Bool, true, false, eqb, refl, sym, subst}
use Rattle.std.specs.Prelude.{All, if◌then◌else◌, ◌==◌}
use Rattle.std.proofs.lemmas.Bool.{eqb-true}
use Rattle.std.proofs.lemmas.List.Elements.{All-nil, All-push}
use Rattle.ar_base.specs.Bytes.{AreBytes}
use Rattle.ar_message.specs.declared.sent.Sent.{Sent}
use Rattle.ar_statement.specs.Claims.{authority_party, log_party}
use Rattle.ar_statement.specs.declared.party.Party.{Party}
use Rattle.authority_keeper.specs.Keeping as authority_keeping
use Rattle.authority_keeper.specs.Keeping.{AuthorityStanding}
use Rattle.kept_journal.specs.Replays.{ReachesBy}
use Rattle.kept_party.specs.Taking.{Becomes}
use Rattle.lms_tree.specs.KeyParts.{KeyParts}
use Rattle.log_journal.specs.Steps.{LogStanding}
use Rattle.log_journal.specs.Steps as log_standings
use Rattle.log_keeper.specs.Keeping as log_keeping
use Rattle.party_keys.specs.Directory.{Directory}
use Rattle.process_safety.specs.Going.{AreFirstKeys, behind_text, new_network, with_act, with_authority_text, with_log_text}
use Rattle.process_safety.specs.Network.{ClientAct, IsHistoryOf, IsNetwork, KeptHistory, Network, bytes_of_act, is_honest_in}

pub new-is : (directory : Directory) (dishonest : List Party) (log_keys authority_keys : ℕ → KeyParts) → AreFirstKeys directory dishonest log_keys authority_keys
    → IsNetwork (new_network directory dishonest log_keys authority_keys)
new-is directory dishonest log_keys authority_keys are = record {
  is_directory = are.is_directory;
  logs = λ number honest. record { first = are.logs number honest; bytes = All-nil AreBytes; leads = refl };
  authorities = λ number honest. record { first = are.authorities number honest; bytes = All-nil AreBytes; leads = refl };
  acts = All-nil (λ (act : ClientAct). AreBytes (bytes_of_act act));
}

-- what texts make of a party, one more makes on from there
reaches-more : {S : Type 0} (takes : S → List ℕ → S → Type 0) (texts : List (List ℕ)) (text : List ℕ) (first last new : S) → ReachesBy takes first texts last → takes last text new
    → ReachesBy takes first (texts ++ text ∷ []) new
reaches-more takes [] text first last new leads step = (new, subst (λ s. takes s text new) leads step, refl)
reaches-more takes (t ∷ texts) text first last new leads step = (leads.0, leads.1, reaches-more takes texts text leads.0 last new leads.2 step)

-- a history with one text more is one
history-more : {S : Type 0} (takes : S → List ℕ → S → Type 0) (directory : Directory) (party : Party) (new : KeyParts → S) (h : KeptHistory S) (text : List ℕ) (later : S)
    → AreBytes text → takes h.standing text later → IsHistoryOf takes directory party new h → IsHistoryOf takes directory party new (behind_text h text later)
history-more takes directory party new h text later are step is = record {
  first = is.first;
  bytes = All-push AreBytes h.texts text is.bytes are;
  leads = reaches-more takes h.texts text (new h.key) h.standing later is.leads step;
}

pub log-goes-on : (n : Network) (number : ℕ) (text : List ℕ) (sent : Sent) (new : LogStanding) → IsNetwork n → AreBytes text → log_keeping.takes (n.logs number).standing text sent new
    → IsNetwork (with_log_text n number text new)
log-goes-on n number text sent new is are taken = record {
  is_directory = is.is_directory;
  logs = λ k honest. by k (k == number) refl honest;
  authorities = is.authorities;
  acts = is.acts;
}
  where
    by : (k : ℕ) (b : Bool) → (k == number) ≡ b → is_honest_in n (log_party k) ≡ true
        → IsHistoryOf (Becomes log_keeping.takes) n.directory (log_party k) (log_standings.new_standing k n.directory) (if b then behind_text (n.logs k) text new else n.logs k)
    by k true same honest =
        history-more (Becomes log_keeping.takes) n.directory (log_party k) (log_standings.new_standing k n.directory) (n.logs k) text new are
        (sent, subst (λ (m : ℕ). log_keeping.takes (n.logs m).standing text sent new) (sym (eqb-true k number same)) taken) (is.logs k honest)
    by k false other honest = is.logs k honest

pub authority-goes-on : (n : Network) (number : ℕ) (text : List ℕ) (sent : Sent) (new : AuthorityStanding) → IsNetwork n → AreBytes text → authority_keeping.takes (n.authorities number).standing text sent new
    → IsNetwork (with_authority_text n number text new)
authority-goes-on n number text sent new is are taken = record {
  is_directory = is.is_directory;
  logs = is.logs;
  authorities = λ k honest. by k (k == number) refl honest;
  acts = is.acts;
}
  where
    by : (k : ℕ) (b : Bool) → (k == number) ≡ b → is_honest_in n (authority_party k) ≡ true
        → IsHistoryOf (Becomes authority_keeping.takes) n.directory (authority_party k) (authority_keeping.new_standing k n.directory) (if b then behind_text (n.authorities k) text new else n.authorities k)
    by k true same honest =
        history-more (Becomes authority_keeping.takes) n.directory (authority_party k) (authority_keeping.new_standing k n.directory) (n.authorities k) text new are
        (sent, subst (λ (m : ℕ). authority_keeping.takes (n.authorities m).standing text sent new) (sym (eqb-true k number same)) taken) (is.authorities k honest)
    by k false other honest = is.authorities k honest

pub act-goes-on : (n : Network) (act : ClientAct) → IsNetwork n → AreBytes (bytes_of_act act) → IsNetwork (with_act n act)
act-goes-on n act is are = record {
  is_directory = is.is_directory;
  logs = is.logs;
  authorities = is.authorities;
  acts = All-push (λ (a : ClientAct). AreBytes (bytes_of_act a)) n.acts act is.acts are;
}
