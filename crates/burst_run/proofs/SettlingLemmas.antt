-- Replies that are settled, one after another: what is printed comes behind what was, and messages stay.
use Rattle.std.proofs.Common.{◌≡◌, ◌∙◌, ℕ, zero, suc, ◌+◌, List, [], ◌∷◌, ◌++◌, length, map, Option, Some, None, Ok, Err, refl, sym, ap, subst, append_assoc, arith}
use Rattle.std.specs.Prelude.{is_some, slice_get, slice_set, true}
use Rattle.std.specs.List.{AllByRecursion}
use Rattle.std.proofs.lemmas.List.{append-nil}
use Rattle.ar_nodes.specs.Acting.{Reply, delivered_by, noted_in, pool_behind, with_delivered}
use Rattle.ar_nodes.specs.Pool.{Pooled, numbered, pooled_from, set_numbered}
use Rattle.ar_statement.specs.declared.party.Party.{Party}
use Rattle.ar_world.specs.Finding.{message_at}
use Rattle.ar_world.specs.Settling.{settled}
use Rattle.ar_world.specs.State.{Moved, World, printing}
use Rattle.owner_check.specs.declared.answer.Outcome.{Outcome}
use Rattle.report_text.specs.declared.happening.Happening.{Happening}
use Rattle.report_text.specs.declared.happening.Happening.TheVariants.{Order}
use Rattle.station.specs.declared.delivery.Delivery.{Delivery}
use Rattle.burst_run.specs.Laying.{VisitParts, each_settled, visits_settled}

-- ---- messages stay

-- the messages of a world are there in another
abbrev pub HasThose : World → World → Type 0
HasThose old new = (message : ℕ) → is_some (message_at old message) ≡ true → is_some (message_at new message) ≡ true

there_set : (pool : List Pooled) (place k : ℕ) (p : Pooled) → is_some (slice_get pool k) ≡ true → is_some (slice_get (slice_set pool place p) k) ≡ true
there_set [] place k p there = there
there_set (q ∷ pool) zero zero p there = refl
there_set (q ∷ pool) zero (suc k) p there = there
there_set (q ∷ pool) (suc place) zero p there = refl
there_set (q ∷ pool) (suc place) (suc k) p there = there_set pool place k p there

there_put : (pool : List Pooled) (place k : ℕ) (p : Pooled) → is_some (numbered pool k) ≡ true → is_some (numbered (set_numbered pool place p) k) ≡ true
there_put pool zero k p there = there
there_put pool (suc place) zero p there = there
there_put pool (suc place) (suc k) p there = there_set pool place k p there

there_noted : (pool : List Pooled) (message k : ℕ) (o : Option Pooled) (delivered : List Party) → is_some (numbered pool k) ≡ true → is_some (numbered (with_delivered pool message o delivered) k) ≡ true
there_noted pool message k None delivered there = there
there_noted pool message k (Some p) delivered there = there_put pool message k (record p { delivered = delivered }) there

there_more : (pool more : List Pooled) (k : ℕ) → is_some (slice_get pool k) ≡ true → is_some (slice_get (pool ++ more) k) ≡ true
there_more [] more k there = absurd cc
there_more (p ∷ pool) more zero there = refl
there_more (p ∷ pool) more (suc k) there = there_more pool more k there

there_behind : (pool : List Pooled) (who : Party) (reply : Reply) (k : ℕ) → is_some (numbered pool k) ≡ true → is_some (numbered (pool_behind pool who reply) k) ≡ true
there_behind pool who (Ok sent) zero there = there
there_behind pool who (Ok sent) (suc k) there = there_more pool (map (pooled_from who) sent.messages) k there
there_behind pool who (Err code) k there = there

settled_has : (w : World) (message : ℕ) (who : Party) (reply : Reply) → HasThose w (settled w message who reply).0
settled_has w message who reply = λ k there.
    there_behind (noted_in w.pool message who) who reply k (there_noted w.pool message k (numbered w.pool message) (delivered_by who (numbered w.pool message)) there)

each_has : (w : World) (who : Party) (calls : List (Delivery × Option Outcome)) (replies : List Reply) → HasThose w (each_settled w who calls replies).0
each_has w who [] replies = λ k there. there
each_has w who (call ∷ calls) [] = λ k there. there
each_has w who (call ∷ calls) (reply ∷ replies) =
    λ k there. each_has (settled w call.0.message who reply).0 who calls replies k (settled_has w call.0.message who reply k there)

-- the messages of these calls are there
abbrev pub CallsThere : World → List (Delivery × Option Outcome) → Type 0
CallsThere w calls = AllByRecursion (λ call. is_some (message_at w call.0.message) ≡ true) calls

calls_kept : (old new : World) (calls : List (Delivery × Option Outcome)) → HasThose old new → CallsThere old calls → CallsThere new calls
calls_kept old new [] has there = tt
calls_kept old new (call ∷ calls) has there = (has call.0.message there.0, calls_kept old new calls has there.1)

-- ---- the replies of one party

-- What is left to settle makes of the world what all of it did.
pub record StillSettles (start : World) (said : List Happening) (who : Party) (all : List (Delivery × Option Outcome)) (given : List Reply)
    (now : World) (told : List Happening) (rest : List (Delivery × Option Outcome)) (replies : List Reply) : Type 0 where
  pub made : printing told (each_settled now who rest replies) ≡ printing said (each_settled start who all given)
  pub many : length replies ≡ length rest
  pub there : CallsThere now rest

pub settles_start : (w : World) (said : List Happening) (who : Party) (all : List (Delivery × Option Outcome)) (given : List Reply) → length given ≡ length all → CallsThere w all
    → StillSettles w said who all given w said all given
settles_start w said who all given many there = record { made = refl; many = many; there = there }

settles_on : (start : World) (said : List Happening) (who : Party) (all : List (Delivery × Option Outcome)) (given : List Reply) (now next : World) (told more : List Happening)
    (call : Delivery × Option Outcome) (rest : List (Delivery × Option Outcome)) (reply : Reply) (replies : List Reply) → settled now call.0.message who reply ≡ (next, more)
    → StillSettles start said who all given now told (call ∷ rest) (reply ∷ replies) → StillSettles start said who all given next (told ++ more) rest replies
settles_on start said who all given now next told more call rest reply replies is still =
    let later : World × List Happening = each_settled next who rest replies in
    record {
      made = ap (λ l. (later.0, l)) (append_assoc told more later.1)
          ∙ sym (ap (λ (m : Moved). printing told (printing m.1 (each_settled m.0 who rest replies))) is)
          ∙ still.made;
      many = (let same = still.many in omega (arith, same));
      there = calls_kept now next rest (subst (λ (m : Moved). HasThose now m.0) is (settled_has now call.0.message who reply)) still.there.1;
    }

pub settles_next : (start : World) (said : List Happening) (who : Party) (all : List (Delivery × Option Outcome)) (given : List Reply) (now next : World) (told more behind : List Happening)
    (call : Delivery × Option Outcome) (left rest : List (Delivery × Option Outcome)) (reply : Reply) (left' replies : List Reply) → left ≡ call ∷ rest → left' ≡ reply ∷ replies
    → behind ≡ told ++ more → settled now call.0.message who reply ≡ (next, more) → StillSettles start said who all given now told left left' → StillSettles start said who all given next behind rest replies
settles_next start said who all given now next told more behind call left rest reply left' replies first first' grown is still =
    subst (λ l. StillSettles start said who all given next l rest replies) (sym grown)
    (settles_on start said who all given now next told more call rest reply replies is
    (subst (λ l. StillSettles start said who all given now told (call ∷ rest) l) first' (subst (λ l. StillSettles start said who all given now told l left') first still)))

-- the message of the next call is there
pub settles_there : (start : World) (said : List Happening) (who : Party) (all : List (Delivery × Option Outcome)) (given : List Reply) (now : World) (told : List Happening)
    (call : Delivery × Option Outcome) (left rest : List (Delivery × Option Outcome)) (replies : List Reply) → left ≡ call ∷ rest → StillSettles start said who all given now told left replies
    → is_some (message_at now call.0.message) ≡ true
settles_there start said who all given now told call left rest replies first still =
    let here = subst (λ l. StillSettles start said who all given now told l replies) first still in here.there.0

pub settles_end : (start : World) (said : List Happening) (who : Party) (all : List (Delivery × Option Outcome)) (given : List Reply) (now : World) (told : List Happening)
    (rest : List (Delivery × Option Outcome)) (replies : List Reply) → rest ≡ [] → StillSettles start said who all given now told rest replies
    → (now, told) ≡ printing said (each_settled start who all given)
settles_end start said who all given now told rest replies none still =
    ap (λ l. (now, l)) (sym (append-nil told)) ∙ sym (ap (λ calls. printing told (each_settled now who calls replies)) none) ∙ still.made

-- ---- the visits of all parties

-- what a visit replied can be settled
pub record CanSettle (w : World) (visit : VisitParts) : Type 0 where
  pub many : length visit.replies ≡ length visit.history
  pub there : CallsThere w visit.history

all_kept : (old new : World) (visits : List VisitParts) → HasThose old new → AllByRecursion (CanSettle old) visits → AllByRecursion (CanSettle new) visits
all_kept old new [] has can = tt
all_kept old new (v ∷ visits) has can =
    (record { many = can.0.many; there = calls_kept old new v.history has can.0.there }, all_kept old new visits has can.1)

pub can_all : (w : World) (visits : List VisitParts) → AllByRecursion (λ (v : VisitParts). length v.replies ≡ length v.history) visits
    → AllByRecursion (λ (v : VisitParts). CallsThere w v.history) visits → AllByRecursion (CanSettle w) visits
can_all w [] many there = tt
can_all w (v ∷ visits) many there = (record { many = many.0; there = there.0 }, can_all w visits many.1 there.1)

visit_has : (w : World) (visit : VisitParts) → HasThose w (visits_settled w (visit ∷ [])).0
visit_has w visit = each_has w visit.party visit.history visit.replies

pub record StillVisits (start : World) (all : List VisitParts) (now : World) (told : List Happening) (rest : List VisitParts) : Type 0 where
  pub made : printing told (visits_settled now rest) ≡ visits_settled start all
  pub can : AllByRecursion (CanSettle now) rest

pub visits_start : (w : World) (all : List VisitParts) → AllByRecursion (CanSettle w) all → StillVisits w all w [] all
visits_start w all can = record { made = refl; can = can }

visits_on : (start : World) (all : List VisitParts) (now next : World) (told more : List Happening) (visit : VisitParts) (rest : List VisitParts)
    → (next, more) ≡ printing told (visits_settled now (visit ∷ [])) → StillVisits start all now told (visit ∷ rest) → StillVisits start all next more rest
visits_on start all now next told more visit rest is still =
    let made : World × List Happening = each_settled now visit.party visit.history visit.replies in
    let line = Order visit.party (map (λ call. call.0.j) visit.history) in
    let later : World × List Happening = visits_settled made.0 rest in
    record {
      made = ap (λ (m : Moved). printing m.1 (visits_settled m.0 rest)) is
          ∙ ap (λ l. (later.0, l)) (ap (λ l. (told ++ l) ++ later.1) (append-nil (line ∷ made.1)) ∙ append_assoc told (line ∷ made.1) later.1)
          ∙ still.made;
      can = all_kept now next rest (subst (λ (w : World). HasThose now w) (sym (ap (λ (m : Moved). m.0) is)) (visit_has now visit)) still.can.1;
    }

pub visits_next : (start : World) (all : List VisitParts) (now next : World) (told more : List Happening) (visit : VisitParts) (left rest : List VisitParts) → left ≡ visit ∷ rest
    → (next, more) ≡ printing told (visits_settled now (visit ∷ [])) → StillVisits start all now told left → StillVisits start all next more rest
visits_next start all now next told more visit left rest first is still =
    visits_on start all now next told more visit rest is (subst (λ l. StillVisits start all now told l) first still)

-- the next can be settled
pub visits_can : (start : World) (all : List VisitParts) (now : World) (told : List Happening) (visit : VisitParts) (left rest : List VisitParts) → left ≡ visit ∷ rest
    → StillVisits start all now told left → CanSettle now visit
visits_can start all now told visit left rest first still =
    let here = subst (λ l. StillVisits start all now told l) first still in here.can.0

pub visits_end : (start : World) (all : List VisitParts) (now : World) (told : List Happening) (rest : List VisitParts) → rest ≡ [] → StillVisits start all now told rest
    → (now, told) ≡ visits_settled start all
visits_end start all now told rest none still =
    ap (λ l. (now, l)) (sym (append-nil told)) ∙ sym (ap (λ l. printing told (visits_settled now l)) none) ∙ still.made

-- the order of a party comes first
pub visit_told : (w : World) (said : List Happening) (visit : VisitParts) (now : World) (told : List Happening)
    → (now, told) ≡ printing (said ++ Order visit.party (map (λ call. call.0.j) visit.history) ∷ []) (each_settled w visit.party visit.history visit.replies)
    → (now, told) ≡ printing said (visits_settled w (visit ∷ []))
visit_told w said visit now told is =
    let made : World × List Happening = each_settled w visit.party visit.history visit.replies in
    let line = Order visit.party (map (λ call. call.0.j) visit.history) in
    is ∙ ap (λ l. (made.0, l)) (append_assoc said (line ∷ []) made.1 ∙ ap (λ l. said ++ l) (sym (append-nil (line ∷ made.1))))
