-- What orders to logs and authorities make of a world, by what they make of the party and the pool.
use Rattle.std.proofs.Common.{◌≡◌, inl, ℕ, zero, suc, ◌<◌, Bool, true, false, List, [], ◌∷◌, length, get_or, is_some, Option, Some, None, IfSome, Result, Ok, Err, refl, sym, ap, subst, ◌∙◌}
use Rattle.std.specs.Prelude.{slice_get, slice_set}
use Rattle.std.specs.Option.{option_flatten}
use Rattle.std.proofs.lemmas.Option.{same_Some}
use Rattle.ar_base.specs.Chaining.{◌>>=◌, need}
use Rattle.ar_statement.specs.declared.party.Role.TheVariants.{LogServer, Authority}
use Rattle.lms_tree.specs.KeyParts.{KeyParts}
use Rattle.ar_nodes.specs.log_core.State.{Input}
use Rattle.report_text.specs.declared.happening.Happening.{Happening}
use Rattle.report_text.specs.declared.happening.What.{What}
use Rattle.ar_nodes.specs.Acting.{ActsBy, ChangesThere, authority_rolled, log_obeyed, log_rolled}
use Rattle.ar_world.specs.Finding.{Effect, authority_at, has_room, log_at, room}
use Rattle.ar_nodes.specs.Finding.{honest_in, named}
use Rattle.ar_nodes.specs.Parties.{next_of}
use Rattle.ar_world.specs.Ordering.{log_order, roll_of}
use Rattle.ar_nodes.specs.Parties.{AuthorityNode, LogNode}
use Rattle.ar_nodes.specs.Pool.{Pooled}
use Rattle.ar_world.specs.Sending.{authority_made, log_made}
use Rattle.ar_world.specs.State.{Moved, World, with_authority, with_log}
use Rattle.ar_world.specs.Step.{StepsBy}
use Rattle.ar_nodes.specs.declared.event.LogEvent.{LogEvent}
use Rattle.ar_nodes.specs.declared.fault.WorldFault.{WorldFault}
use Rattle.ar_nodes.specs.declared.fault.WorldFault.TheVariants.{Absent, Limit}
use Rattle.ar_nodes.proofs.Nodes.{next-there}
use Rattle.ar_nodes.proofs.Spots.{honest_spot}

-- ---- what stands in its place

pub same-there : {X : Type 0} (xs : List X) (i : ℕ) (x : X) → slice_get xs i ≡ Some x → slice_set xs i x ≡ xs
same-there [] i x e = refl
same-there (y ∷ xs) zero x e = ap (λ z. z ∷ xs) (sym (same_Some y x e))
same-there (y ∷ xs) (suc i) x e = ap (λ ys. y ∷ ys) (same-there xs i x e)

-- what is there, and is not dishonest
pub honest-there : {X : Type 0} (xs : List (Option X)) (i : ℕ) (x : X) → honest_in xs i ≡ Some x → slice_get xs i ≡ Some (Some x)
honest-there {X = X} xs i x e = at (slice_get xs i) e where
  at : (o : Option (Option X)) → option_flatten o ≡ Some x → o ≡ Some (Some x)
  at None e = absurd cc
  at (Some o) e = ap (λ p. Some p) e

pub log-same : (w : World) (number : ℕ) (node : LogNode) → log_at w number ≡ Some node → with_log w number node ≡ w
log-same w number node e = ap (λ logs. record w { logs = logs }) (same-there w.logs number (Some node) (honest-there w.logs number node e))

pub authority-same : (w : World) (number : ℕ) (node : AuthorityNode) → authority_at w number ≡ Some node → with_authority w number node ≡ w
authority-same w number node e = ap (λ nodes. record w { authorities = nodes }) (same-there w.authorities number (Some node) (honest-there w.authorities number node e))

-- ---- tests

-- a test that refuses says why
same-fault : (one fault : WorldFault) → need false one ≡ Err fault → one ≡ fault
same-fault one fault e = cc

-- there is room where the test says so
pub room-free : (w : World) → room w ≡ Ok tt → has_room w ≡ true
room-free w e = at (has_room w) e where
  at : (b : Bool) → need b Limit ≡ Ok tt → b ≡ true
  at true h = refl
  at false h = absurd cc

-- ---- what a call made

-- A call that made this of the party and the pool made the effect of the world, into which both are put.
pub acts-steps : {X : Type 0} (w : World) (put : X → List Pooled → World) (node node' : X) (result : Result (List Happening) WorldFault) (pool' : List Pooled)
    (made : X × (List Pooled × List Happening)) (effect : Effect) → put node w.pool ≡ w → ActsBy result node node' w.pool pool' made
    → effect ≡ Ok (put made.0 made.1.0, made.1.1) → StepsBy result w (put node' pool') effect
acts-steps w put node node' (Ok said) pool' made effect same acts is = is ∙ ap (λ t. Ok (put t.0 t.1.0, t.1.1)) acts
acts-steps w put node node' (Err fault) pool' made effect same acts is = (ap (λ t. put t pool') acts.1.0 ∙ ap (put node) acts.1.1 ∙ same, inl acts.0)

pub log-steps : (w : World) (number : ℕ) (node : LogNode) (result : Result (List Happening) WorldFault) (node' : LogNode) (pool' : List Pooled)
    (made : LogNode × (List Pooled × List Happening)) (effect : Effect) → log_at w number ≡ Some node → ActsBy result node node' w.pool pool' made
    → effect ≡ Ok (log_made w number made) → StepsBy result w (record (with_log w number node') { pool = pool' }) effect
log-steps w number node result node' pool' made effect e acts is =
    acts-steps w (λ n pool. record (with_log w number n) { pool = pool }) node node' result pool' made effect (log-same w number node e) acts is

pub authority-steps : (w : World) (number : ℕ) (node : AuthorityNode) (result : Result (List Happening) WorldFault) (node' : AuthorityNode) (pool' : List Pooled)
    (made : AuthorityNode × (List Pooled × List Happening)) (effect : Effect) → authority_at w number ≡ Some node → ActsBy result node node' w.pool pool' made
    → effect ≡ Ok (authority_made w number made) → StepsBy result w (record (with_authority w number node') { pool = pool' }) effect
authority-steps w number node result node' pool' made effect e acts is =
    acts-steps w (λ n pool. record (with_authority w number n) { pool = pool }) node node' result pool' made effect (authority-same w number node e) acts is

-- ---- `propose` and `pass`

-- the order by what its word names
abbrev order-by : World → ℕ → What → LogEvent → Input → Option LogNode → Effect
order-by w number what event input o = named 1 o >>= (λ node. room w >>= (λ u. Ok (log_made w number (log_obeyed w.pool number what event input node))))

-- the order where the log is there and the pool is not full
ordered : (w : World) (number : ℕ) (what : What) (event : LogEvent) (input : Input) (node : LogNode) → log_at w number ≡ Some node → has_room w ≡ true
    → log_order w number what event input ≡ Ok (log_made w number (log_obeyed w.pool number what event input node))
ordered w number what event input node there free =
    ap (order-by w number what event input) there
    ∙ ap (λ b. need b Limit >>= (λ u. Ok (log_made w number (log_obeyed w.pool number what event input node)))) free

pub order_obeyed : (w : World) (number : ℕ) (what : What) (event : LogEvent) (input : Input) (node : LogNode) (result : Result (List Happening) WorldFault) (node' : LogNode) (pool' : List Pooled)
    → log_at w number ≡ Some node → has_room w ≡ true
    → ActsBy result node node' w.pool pool' (log_obeyed w.pool number what event input node)
    → StepsBy result w (record (with_log w number node') { pool = pool' }) (log_order w number what event input)
order_obeyed w number what event input node result node' pool' there free acts =
    log-steps w number node result node' pool' (log_obeyed w.pool number what event input node) (log_order w number what event input) there acts
    (ordered w number what event input node there free)

-- the same by what stands in the log's place, of a world as the program has it
pub order_obeyed_there : (v w : World) (number : ℕ) (what : What) (event : LogEvent) (input : Input) (slot slot' other : Option LogNode) (result : Result (List Happening) WorldFault) (pool' : List Pooled)
    → v ≡ w → is_some (log_at w number) ≡ true → room w ≡ Ok tt → slot ≡ get_or v.logs number other
    → ChangesThere slot slot' (λ was is. ActsBy result was is v.pool pool' (log_obeyed v.pool number what event input was))
    → StepsBy result w (record v { logs = slice_set v.logs number slot'; pool = pool' }) (log_order w number what event input)
order_obeyed_there v w number what event input slot slot' other result pool' same there free here so =
    subst (λ (u : World). StepsBy result u (record v { logs = slice_set v.logs number slot'; pool = pool' }) (log_order u number what event input)) same
    (at slot slot' (honest_spot v.logs number slot other (subst (λ (u : World). is_some (log_at u number) ≡ true) (sym same) there) here) so) where
      at : (o o' : Option LogNode) → log_at v number ≡ o
          → ChangesThere o o' (λ was is. ActsBy result was is v.pool pool' (log_obeyed v.pool number what event input was))
          → StepsBy result v (record v { logs = slice_set v.logs number o'; pool = pool' }) (log_order v number what event input)
      at (Some was) (Some is) e acts = order_obeyed v number what event input was result is pool' e (subst (λ (u : World). has_room u ≡ true) (sym same) (room-free w free)) acts
      at (Some was) None e acts = absurd acts
      at None o' e acts = absurd acts

pub order_absent : (w : World) (number : ℕ) (what : What) (event : LogEvent) (input : Input) (fault : WorldFault) → need (is_some (log_at w number)) (Absent 1) ≡ Err fault
    → log_order w number what event input ≡ Err fault
order_absent w number what event input fault e = at (log_at w number) e where
  at : (o : Option LogNode) → need (is_some o) (Absent 1) ≡ Err fault → order-by w number what event input o ≡ Err fault
  at None h = ap (λ f. Err f) (same-fault (Absent 1) fault h)
  at (Some node) h = absurd cc

pub order_full : (w : World) (number : ℕ) (what : What) (event : LogEvent) (input : Input) (fault : WorldFault) → need (is_some (log_at w number)) (Absent 1) ≡ Ok tt → room w ≡ Err fault
    → log_order w number what event input ≡ Err fault
order_full w number what event input fault e full = at (log_at w number) e where
  at : (o : Option LogNode) → need (is_some o) (Absent 1) ≡ Ok tt → order-by w number what event input o ≡ Err fault
  at None h = absurd cc
  at (Some node) h = ap (λ (r : Result (Unit {0}) WorldFault). r >>= (λ u. Ok (log_made w number (log_obeyed w.pool number what event input node)))) full

-- ---- `roll`

-- the order to go on to the next key, by what its word names and the keys that this has
abbrev roll-by : {X : Type 0} → World → (X → List KeyParts) → (X → KeyParts → Moved) → Option X → Effect
roll-by w keys turned o = named 1 o >>= (λ node. named 1 (next_of (keys node)) >>= (λ next. room w >>= (λ u. Ok (turned node next))))

abbrev roll-with : {X : Type 0} → World → (X → KeyParts → Moved) → X → Option KeyParts → Effect
roll-with w turned node o = named 1 o >>= (λ next. room w >>= (λ u. Ok (turned node next)))

roll-absent : {X : Type 0} (w : World) (keys : X → List KeyParts) (turned : X → KeyParts → Moved) (o : Option X) (fault : WorldFault)
    → need (is_some o) (Absent 1) ≡ Err fault → roll-by w keys turned o ≡ Err fault
roll-absent w keys turned None fault h = ap (λ f. Err f) (same-fault (Absent 1) fault h)
roll-absent w keys turned (Some node) fault h = absurd cc

roll-full : {X : Type 0} (w : World) (keys : X → List KeyParts) (turned : X → KeyParts → Moved) (o : Option X) (fault : WorldFault)
    → need (is_some o) (Absent 1) ≡ Ok tt → IfSome o (λ node. 0 < length (keys node)) → room w ≡ Err fault → roll-by w keys turned o ≡ Err fault
roll-full w keys turned None fault h some full = absurd cc
roll-full w keys turned (Some node) fault h some full =
    let n : (next : KeyParts) × (next_of (keys node) ≡ Some next) = next-there (keys node) some
    in ap (roll-with w turned node) n.1 ∙ ap (λ (r : Result (Unit {0}) WorldFault). r >>= (λ u. Ok (turned node n.0))) full

-- what a log makes of a world that goes on to a key
abbrev log-turned : World → ℕ → LogNode → KeyParts → Moved
log-turned w number node next = log_made w number (log_rolled w.pool number next node)

pub log_rolled_so : (w : World) (number : ℕ) (node : LogNode) (result : Result (List Happening) WorldFault) (node' : LogNode) (pool' : List Pooled)
    → log_at w number ≡ Some node → 0 < length node.keys → has_room w ≡ true
    → ((next : KeyParts) → next_of node.keys ≡ Some next
    → ActsBy result node node' w.pool pool' (log_rolled w.pool number next node))
    → StepsBy result w (record (with_log w number node') { pool = pool' }) (roll_of w LogServer number)
log_rolled_so w number node result node' pool' there some free acts =
    let n : (next : KeyParts) × (next_of node.keys ≡ Some next) = next-there node.keys some
    in log-steps w number node result node' pool' (log_rolled w.pool number n.0 node) (roll_of w LogServer number) there (acts n.0 n.1)
    (ap (roll-by w (λ (l : LogNode). l.keys) (log-turned w number)) there ∙ ap (roll-with w (log-turned w number) node) n.1
    ∙ ap (λ b. need b Limit >>= (λ u. Ok (log-turned w number node n.0))) free)

-- the same by what stands in the log's place, of a world as the program has it
pub log_rolled_there : (v w : World) (number : ℕ) (slot slot' other : Option LogNode) (result : Result (List Happening) WorldFault) (pool' : List Pooled)
    → v ≡ w → is_some (log_at w number) ≡ true → IfSome (log_at w number) (λ node. 0 < length node.keys) → room w ≡ Ok tt → slot ≡ get_or v.logs number other
    → ChangesThere slot slot' (λ was is. (next : KeyParts) → next_of was.keys ≡ Some next
    → ActsBy result was is v.pool pool' (log_rolled v.pool number next was))
    → StepsBy result w (record v { logs = slice_set v.logs number slot'; pool = pool' }) (roll_of w LogServer number)
log_rolled_there v w number slot slot' other result pool' same there keyed free here so =
    subst (λ (u : World). StepsBy result u (record v { logs = slice_set v.logs number slot'; pool = pool' }) (roll_of u LogServer number)) same
    (at slot slot' (honest_spot v.logs number slot other (subst (λ (u : World). is_some (log_at u number) ≡ true) (sym same) there) here) so) where
      at : (o o' : Option LogNode) → log_at v number ≡ o
          → ChangesThere o o' (λ was is. (next : KeyParts) → next_of was.keys ≡ Some next
          → ActsBy result was is v.pool pool' (log_rolled v.pool number next was))
          → StepsBy result v (record v { logs = slice_set v.logs number o'; pool = pool' }) (roll_of v LogServer number)
      at (Some was) (Some is) e acts =
          log_rolled_so v number was result is pool' e
          (subst (λ (o : Option LogNode). IfSome o (λ node. 0 < length node.keys)) e (subst (λ (u : World). IfSome (log_at u number) (λ node. 0 < length node.keys)) (sym same) keyed))
          (subst (λ (u : World). has_room u ≡ true) (sym same) (room-free w free)) acts
      at (Some was) None e acts = absurd acts
      at None o' e acts = absurd acts

pub log_roll_absent : (w : World) (number : ℕ) (fault : WorldFault) → need (is_some (log_at w number)) (Absent 1) ≡ Err fault → roll_of w LogServer number ≡ Err fault
log_roll_absent w number fault e = roll-absent w (λ (l : LogNode). l.keys) (log-turned w number) (log_at w number) fault e

pub log_roll_full : (w : World) (number : ℕ) (fault : WorldFault) → need (is_some (log_at w number)) (Absent 1) ≡ Ok tt → IfSome (log_at w number) (λ node. 0 < length node.keys)
    → room w ≡ Err fault → roll_of w LogServer number ≡ Err fault
log_roll_full w number fault e keyed full = roll-full w (λ (l : LogNode). l.keys) (log-turned w number) (log_at w number) fault e keyed full

pub ruleset log_orders = (order_absent, order_full)

pub ruleset log_turns = (log_roll_absent, log_roll_full)

-- ---- `roll` of an authority

-- what an authority makes of a world that goes on to a key
abbrev authority-turned : World → ℕ → AuthorityNode → KeyParts → Moved
authority-turned w number node next = authority_made w number (authority_rolled w.pool number next node)

pub authority_rolled_so : (w : World) (number : ℕ) (node : AuthorityNode) (result : Result (List Happening) WorldFault) (node' : AuthorityNode) (pool' : List Pooled)
    → authority_at w number ≡ Some node → 0 < length node.keys → has_room w ≡ true
    → ((next : KeyParts) → next_of node.keys ≡ Some next
    → ActsBy result node node' w.pool pool' (authority_rolled w.pool number next node))
    → StepsBy result w (record (with_authority w number node') { pool = pool' }) (roll_of w Authority number)
authority_rolled_so w number node result node' pool' there some free acts =
    let n : (next : KeyParts) × (next_of node.keys ≡ Some next) = next-there node.keys some
    in authority-steps w number node result node' pool' (authority_rolled w.pool number n.0 node) (roll_of w Authority number) there (acts n.0 n.1)
    (ap (roll-by w (λ (a : AuthorityNode). a.keys) (authority-turned w number)) there ∙ ap (roll-with w (authority-turned w number) node) n.1
    ∙ ap (λ b. need b Limit >>= (λ u. Ok (authority-turned w number node n.0))) free)

-- the same by what stands in the authority's place, of a world as the program has it
pub authority_rolled_there : (v w : World) (number : ℕ) (slot slot' other : Option AuthorityNode) (result : Result (List Happening) WorldFault) (pool' : List Pooled)
    → v ≡ w → is_some (authority_at w number) ≡ true → IfSome (authority_at w number) (λ node. 0 < length node.keys) → room w ≡ Ok tt → slot ≡ get_or v.authorities number other
    → ChangesThere slot slot' (λ was is. (next : KeyParts) → next_of was.keys ≡ Some next
    → ActsBy result was is v.pool pool' (authority_rolled v.pool number next was))
    → StepsBy result w (record v { authorities = slice_set v.authorities number slot'; pool = pool' }) (roll_of w Authority number)
authority_rolled_there v w number slot slot' other result pool' same there keyed free here so =
    subst (λ (u : World). StepsBy result u (record v { authorities = slice_set v.authorities number slot'; pool = pool' }) (roll_of u Authority number)) same
    (at slot slot' (honest_spot v.authorities number slot other (subst (λ (u : World). is_some (authority_at u number) ≡ true) (sym same) there) here) so) where
      at : (o o' : Option AuthorityNode) → authority_at v number ≡ o
          → ChangesThere o o' (λ was is. (next : KeyParts) → next_of was.keys ≡ Some next
          → ActsBy result was is v.pool pool' (authority_rolled v.pool number next was))
          → StepsBy result v (record v { authorities = slice_set v.authorities number o'; pool = pool' }) (roll_of v Authority number)
      at (Some was) (Some is) e acts =
          authority_rolled_so v number was result is pool' e
          (subst (λ (o : Option AuthorityNode). IfSome o (λ node. 0 < length node.keys)) e (subst (λ (u : World). IfSome (authority_at u number) (λ node. 0 < length node.keys)) (sym same) keyed))
          (subst (λ (u : World). has_room u ≡ true) (sym same) (room-free w free)) acts
      at (Some was) None e acts = absurd acts
      at None o' e acts = absurd acts

pub authority_roll_absent : (w : World) (number : ℕ) (fault : WorldFault) → need (is_some (authority_at w number)) (Absent 1) ≡ Err fault → roll_of w Authority number ≡ Err fault
authority_roll_absent w number fault e = roll-absent w (λ (a : AuthorityNode). a.keys) (authority-turned w number) (authority_at w number) fault e

pub authority_roll_full : (w : World) (number : ℕ) (fault : WorldFault) → need (is_some (authority_at w number)) (Absent 1) ≡ Ok tt → IfSome (authority_at w number) (λ node. 0 < length node.keys)
    → room w ≡ Err fault → roll_of w Authority number ≡ Err fault
authority_roll_full w number fault e keyed full = roll-full w (λ (a : AuthorityNode). a.keys) (authority-turned w number) (authority_at w number) fault e keyed full

pub ruleset authority_turns = (authority_roll_absent, authority_roll_full)
