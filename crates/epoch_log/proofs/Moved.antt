-- What a log keeps where it stands elsewhere.
use Rattle.std.proofs.Common.{◌≡◌, ◌≢◌, ℕ, ◌<◌, ◌^◌, List, [], ◌∷◌, ◌++◌, refl, sym, ap, ◌∙◌, subst, arith, cond, eqb, Option, Some}
use Rattle.std.specs.Prelude.{All, Result, Ok, Err}
use Rattle.std.proofs.lemmas.Bool.{eq-eqb}
use Rattle.std.proofs.lemmas.List.Elements.{All-cons, All-nil}
use Rattle.ar_council.specs.Council.{IsMember, council_of}
use Rattle.party_keys.specs.Seen.{seen_of}
use Rattle.ar_statement.specs.Claims.{log_party}
use Rattle.ar_statement.specs.Ranges.{IsKeyText}
use Rattle.ar_statement.specs.declared.text.SeenText.{SeenText}
use Rattle.key_roll.specs.Due.{DueParts}
use Rattle.key_roll.specs.Entry.{announced}
use Rattle.key_roll.specs.declared.fault.RollFault.{RollFault}
use Rattle.key_roll.specs.declared.fault.RollFault.TheVariants as roll_fault
use Rattle.lms_tree.specs.PublicKey.{HasWidths, key_text}
use Rattle.lms_tree.specs.declared.public_key.LmsPublic.{LmsPublic}
use Rattle.party_keys.specs.Directory.{Directory}
use Rattle.party_keys.specs.Learning.{Announced, learned, roll_claim}
use Rattle.party_keys.specs.declared.learning.Learned.{Learned}
use Rattle.domain_table.specs.Sound.{IsSound}
use Rattle.domain_table.specs.Applying.{apply}
use Rattle.domain_table.specs.Tables.{Table, no_table}
use Rattle.domain_table.proofs.Applied.{none_sound}
use Rattle.epoch_log.specs.Calls.{after_learn, after_roll, fresh, learning, rolling}
use Rattle.epoch_log.specs.Log.{IsLog, LogParts, having_tried, moved, parts_of, standing_tables, state_in, untried}
use Rattle.epoch_log.specs.Record.{base_of, current, ending}
use Rattle.epoch_log.specs.State.{IsKeptLog, LogState, epoch_of, table_of}
use Rattle.epoch_log.specs.declared.entries.Ended.{Ended}
use Rattle.epoch_log.specs.declared.entries.Voted.{Voted}
use Rattle.epoch_log.specs.declared.parts.Parts.{Parts}
use Rattle.epoch_log.specs.declared.parts.Tables.{Tables}
use Rattle.epoch_log.proofs.Acting.{kept-rolling}
use Rattle.epoch_log.proofs.Called.{kept-fresh}
use Rattle.epoch_log.proofs.Kept.{kept-seeing}
use Rattle.epoch_log.proofs.Tried.{own-tried}
use Rattle.ar_council.proofs.Members.{learned-member}
use Rattle.ar_council.proofs.Readable.{readable}

log-stands : (p q : Parts) (s : LogState) → state_in q ≡ s → q.tables ≡ p.tables → IsLog p → IsKeptLog s → standing_tables s ≡ standing_tables (state_in p) → IsLog q
log-stands p q s state same log kept tables = record {
  kept = subst IsKeptLog (sym state) kept;
  tables = same ∙ log.tables ∙ sym tables ∙ sym (ap standing_tables state);
  sound = subst IsSound (sym (ap (λ (t : Tables). t.base) same)) log.sound;
}

pub log-moved : (p q : Parts) (s : LogState) → parts_of q ≡ moved (parts_of p) s → q.tables ≡ p.tables → IsLog p → IsKeptLog s → standing_tables s ≡ standing_tables (state_in p) → IsLog q
log-moved p q s there = log-stands p q s (ap (λ (l : LogParts). l.state) there)

pub log-same : (p q : Parts) → parts_of q ≡ parts_of p → q.tables ≡ p.tables → IsLog p → IsLog q
log-same p q there same log = log-moved p q (state_in p) there same log log.kept refl

-- ---- a vote

-- a log that voted keeps the table that it tried
pub log-cast : (p q : Parts) (s : LogState) (v : Voted) (tried : Table) → parts_of q ≡ moved (parts_of p) s → q.tables ≡ having_tried p.tables tried → IsLog p → IsKeptLog s
    → s.past.ended ≡ (state_in p).past.ended → s.past.voted ≡ (state_in p).past.voted ++ v ∷ [] → v.epoch ≡ epoch_of (state_in p)
    → All (λ (w : Voted). w.epoch ≢ epoch_of (state_in p)) (state_in p).past.voted → apply (table_of (state_in p)) (epoch_of (state_in p)) v.changes ≡ Some tried → IsLog q
log-cast p q s v tried there same log kept ended voted epoch none leads =
    let state : state_in q ≡ s = ap (λ (l : LogParts). l.state) there in
    let its : table_of s ≡ table_of (state_in p) = ap (λ (x : List Ended). base_of x (current x)) ended in
    record {
      kept = subst IsKeptLog (sym state) kept;
      tables = same ∙ ap (λ (t : Tables). having_tried t tried) log.tables
          ∙ ap (λ (t : Table). let made : Tables = record { base = t; tried = Some tried } in made) (sym its)
          ∙ ap (λ (o : Option Table). let made : Tables = record { base = table_of s; tried = o } in made) (sym (own-tried (state_in p) s v tried ended voted epoch none leads))
          ∙ sym (ap standing_tables state);
      sound = subst IsSound (sym (ap (λ (t : Tables). t.base) same)) log.sound;
    }

-- ---- the beginning

fresh-tables : (me : ℕ) (keys : Directory) (leaves : ℕ) → standing_tables (fresh me (council_of keys) leaves) ≡ untried no_table
unfolding base_of ending
fresh-tables me keys leaves = refl

pub log-fresh : (p : Parts) (me : ℕ) (keys : Directory) (leaves : ℕ) → parts_of p ≡ record { state = fresh me (council_of keys) leaves; keys = keys } → p.tables ≡ untried no_table
    → me < 2 ^ 16 → 0 < leaves → IsLog p
log-fresh p me keys leaves parts tables small some =
    let state : state_in p ≡ fresh me (council_of keys) leaves = ap (λ (l : LogParts). l.state) parts in
    record {
      kept = subst IsKeptLog (sym state) (kept-fresh me (council_of keys) leaves small some);
      tables = tables ∙ sym (fresh-tables me keys leaves) ∙ sym (ap standing_tables state);
      sound = subst IsSound (sym (ap (λ (t : Tables). t.base) tables)) none_sound;
    }

-- ---- keys

pub log-learned : (p q : Parts) (a : Announced) (l : Learned) → learned p.directory a ≡ Ok l
    → parts_of q ≡ learning (parts_of p) a
    → q.tables ≡ p.tables → IsLog p → IsLog q
log-learned p q a l is there same log =
    let one : SeenText = seen_of a.party (roll_claim a) in
    let member : All (λ (t : SeenText). IsMember (council_of p.directory) t.party) (one ∷ []) =
    All-cons (λ (t : SeenText). IsMember (council_of p.directory) t.party) one [] (learned-member p.directory a l is) (All-nil (λ (t : SeenText). IsMember (council_of p.directory) t.party)) in
    log-stands p q (after_learn (state_in p) a) (ap (λ (k : LogParts). k.state) there) same log
    (kept-seeing (state_in p) (one ∷ []) log.kept member) refl

not-last : (newest : ℕ) (text : List ℕ) (answer : Result DueParts RollFault) (due : DueParts) → cond (eqb newest 999) (Err roll_fault.Last) answer ≡ Ok due → newest ≢ 999
not-last newest text answer due is same = let last : cond (eqb newest 999) (Err roll_fault.Last) answer ≡ Err roll_fault.Last = ap (λ b. cond b (Err roll_fault.Last) answer) (eq-eqb newest 999 same) in absurd cc

pub log-rolled : (p q : Parts) (next : LmsPublic) (due : DueParts) → IsKeyText (key_text next) → HasWidths next
    → announced (state_in p).past.signed (log_party (state_in p).me) next ≡ Ok due → parts_of q ≡ rolling (parts_of p) next
    → q.tables ≡ p.tables → IsLog p → IsLog q
log-rolled p q next due text widths is there same log =
    let other = not-last (state_in p).past.signed.newest (key_text next) _ due is in
    let most = log.kept.honest.signs_what_it_tells.sound.last in
    log-stands p q (after_roll (state_in p) (key_text next)) (ap (λ (k : LogParts). k.state) there) same log
    (kept-rolling (state_in p) (key_text next) log.kept (record { not_last = omega (arith, other, most); is_key = text; readable = readable next widths })) refl
