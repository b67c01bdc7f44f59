-- What it means that a client pins a certificate or takes links.
use Rattle.std.specs.Prelude.{◌≡◌, ◌≢◌, ℕ, List, [], ◌∷◌, ◌++◌, length, Some, None}
use Rattle.ar_cert.specs.Certificate.{Certificate, certificate_text}
use Rattle.ar_cert.specs.Changes.{Change}
use Rattle.client_rule.specs.Rule.{Asked, judgement}
use Rattle.client_rule.specs.declared.judgement.Judgement.TheVariants.{Accepted}
use Rattle.client_memory.specs.Answers.{first_change}
use Rattle.client_memory.specs.Book.{Pin, last_behind, newest_pinned, pinned_chain}
use Rattle.client_memory.specs.Links.{AllLinked}

-- a certificate of the name is accepted
pub record Vouched (asked : Asked) (bytes : List ℕ) (this : Certificate) : Type 0 where
  pub digest : List ℕ
  pub epoch : ℕ
  pub root : List ℕ
  pub accepted : judgement asked bytes ≡ Accepted this digest epoch root

-- all other names are pinned as before
abbrev pub OthersStay : List ℕ → List Pin → List Pin → Type 0
OthersStay name book later = (other : List ℕ) → name ≢ other → pinned_chain later other ≡ pinned_chain book other

-- A name that was not pinned is pinned with the certificate that was accepted, under its own name.
pub record PinsFirst (asked : Asked) (bytes : List ℕ) (book later : List Pin) : Type 0 where
  pub this : Certificate
  pub vouched : Vouched asked bytes this
  pub name : this.name ≡ asked.name
  pub was : newest_pinned book asked.name ≡ None
  pub kept : pinned_chain book asked.name ≡ None → pinned_chain later asked.name ≡ Some (first_change this ∷ [])
  pub others : OthersStay asked.name book later

-- Links were taken: each is linked behind the one before it under the directory of the call, the first behind the newest
-- certificate that was pinned; the last is of the certificate that was accepted; and they stand behind what was kept.
pub record Moves (asked : Asked) (bytes : List ℕ) (links : List Change) (count : ℕ) (book later : List Pin) : Type 0 where
  pub this : Certificate
  pub vouched : Vouched asked bytes this
  pub newest : Certificate
  pub was : newest_pinned book asked.name ≡ Some newest
  pub linked : AllLinked asked.keys newest links
  pub ends : certificate_text (last_behind newest links) ≡ certificate_text this
  pub count_is : length links ≡ count
  pub kept : (chain : List Change) → pinned_chain book asked.name ≡ Some chain → pinned_chain later asked.name ≡ Some (chain ++ links)
  pub others : OthersStay asked.name book later
