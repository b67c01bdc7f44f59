-- What several calls of a disk spend together.
use Rattle.std.proofs.Common.{◌≡◌, inl, inr, ℕ, ◌+◌, ◌-◌, ◌<◌, ◌≤◌, refl, ◌∙◌, ap, subst, arith, Option, Some, None}
use Rattle.std.specs.Prelude.{IfSome}
use Rattle.std.specs.Option.{option_map}
use Rattle.kept_disk.specs.Fuel.{Fuel, Lacks, Spends, Wants}
use Rattle.kept_journal.specs.Appending.{SpendsAll, WantsAll}

abbrev fuel : Option ℕ → ℕ → ℕ → Fuel
fuel fuse room changes = record { fuse = fuse; room = room; changes = changes }

same-fuel : (x y : Option ℕ) (a b c d : ℕ) → x ≡ y → a ≡ b → c ≡ d → Some (fuel x a c) ≡ Some (fuel y b d)
same-fuel x y a b c d one two three =
    ap (λ (o : Option ℕ). Some (fuel o a c)) one ∙ ap (λ (n : ℕ). Some (fuel y n c)) two ∙ ap (λ (n : ℕ). Some (fuel y b n)) three

-- what is left behind so many calls
abbrev left : Fuel → ℕ → ℕ → ℕ → Fuel
left f calls bytes changes = record { fuse = option_map (λ k. k - calls) f.fuse; room = f.room - bytes; changes = f.changes - changes }

-- before the first call
pub none_spent : (f : Option Fuel) → SpendsAll f f 0 0 0
none_spent None = refl
none_spent (Some f) = (any f.fuse, omega arith, omega arith, same-fuel f.fuse (option_map (λ k. k - 0) f.fuse) f.room (f.room - 0) f.changes (f.changes - 0) (same f.fuse) (omega arith) (omega arith))
  where
    any : (o : Option ℕ) → IfSome o (λ k. 0 ≤ k)
    any None = tt
    any (Some k) = omega arith

    same : (o : Option ℕ) → o ≡ option_map (λ k. k - 0) o
    same None = refl
    same (Some k) = ap (λ (n : ℕ). Some n) (omega arith)

-- calls behind others
pub then_spent : (f0 f1 f2 : Option Fuel) (a b c x y z A B C : ℕ) → SpendsAll f0 f1 a b c → SpendsAll f1 f2 x y z → A ≡ a + x → B ≡ b + y → C ≡ c + z
    → SpendsAll f0 f2 A B C
then_spent None f1 f2 a b c x y z A B C so_far more calls bytes changes = subst (λ (f : Option Fuel). SpendsAll f f2 x y z) so_far more
then_spent (Some f) f1 f2 a b c x y z A B C so_far more calls bytes changes =
    let here : SpendsAll (Some (left f a b c)) f2 x y z = subst (λ (o : Option Fuel). SpendsAll o f2 x y z) so_far.3 more in (
      enough f.fuse so_far.0 here.0,
      omega (arith, bytes, so_far.1, here.1),
      omega (arith, changes, so_far.2, here.2),
      here.3 ∙ same-fuel (option_map (λ k. k - x) (option_map (λ k. k - a) f.fuse)) (option_map (λ k. k - A) f.fuse) (f.room - b - y) (f.room - B)
          (f.changes - c - z) (f.changes - C) (burnt f.fuse) (omega (arith, bytes)) (omega (arith, changes)),
    )
  where
    enough : (o : Option ℕ) → IfSome o (λ k. a ≤ k) → IfSome (option_map (λ k. k - a) o) (λ k. x ≤ k) → IfSome o (λ k. A ≤ k)
    enough None one two = tt
    enough (Some k) one two = omega (arith, one, two, calls)

    burnt : (o : Option ℕ) → option_map (λ k. k - x) (option_map (λ k. k - a) o) ≡ option_map (λ k. k - A) o
    burnt None = refl
    burnt (Some k) = ap (λ (n : ℕ). Some n) (omega (arith, calls))

-- calls for which there was too little behind those
pub then_wants : (f0 f1 : Option Fuel) (a b c x y z A B C : ℕ) → SpendsAll f0 f1 a b c → WantsAll f1 x y z → a + x ≤ A → b + y ≤ B → c + z ≤ C
    → WantsAll f0 A B C
then_wants None f1 a b c x y z A B C so_far wants calls bytes changes = tt
then_wants (Some f) f1 a b c x y z A B C so_far wants calls bytes changes = by (subst (λ (o : Option Fuel). WantsAll o x y z) so_far.3 wants)
  where
    burnt : (o : Option ℕ) → IfSome o (λ k. a ≤ k) → (k : ℕ) × (option_map (λ k. k - a) o ≡ Some k) × (k < x) → (k : ℕ) × (o ≡ Some k) × (k < A)
    burnt None some short = let none : None ≡ Some short.0 = short.1 in absurd cc
    burnt (Some k) some short = let is : Some (k - a) ≡ Some short.0 = short.1 in let gone : k - a ≡ short.0 = cc in (k, refl, omega (arith, gone, some, short.2, calls))

    by : WantsAll (Some (left f a b c)) x y z → WantsAll (Some f) A B C
    by (inl fuse) = inl (burnt f.fuse so_far.0 fuse)
    by (inr (inl room)) = inr (inl (omega (arith, room, so_far.1, bytes)))
    by (inr (inr few)) = inr (inr (omega (arith, few, so_far.2, changes)))

-- one call, and one for which there was too little
pub one_spent : (f g : Option Fuel) (bytes changes : ℕ) → Spends f g bytes changes → SpendsAll f g 1 bytes changes
one_spent None g bytes changes spends = spends
one_spent (Some f) g bytes changes spends = (spends.0.0, spends.0.1, spends.0.2, spends.1)

pub one_wants : (f : Option Fuel) (bytes changes : ℕ) → Wants f bytes changes → WantsAll f 1 bytes changes
one_wants None bytes changes wants = tt
one_wants (Some f) bytes changes wants = by wants
  where
    by : Lacks f bytes changes → WantsAll (Some f) 1 bytes changes
    by (inl fuse) = inl (0, fuse, omega arith)
    by (inr more) = inr more

-- one call more
pub one_more_spent : (f0 fj fk : Option Fuel) (calls bytes changes b c C B H : ℕ) → SpendsAll f0 fj calls bytes changes → Spends fj fk b c
    → C ≡ calls + 1 → B ≡ bytes + b → H ≡ changes + c → SpendsAll f0 fk C B H
one_more_spent f0 fj fk calls bytes changes b c C B H so_far step cs bs hs =
    then_spent f0 fj fk calls bytes changes 1 b c C B H so_far (one_spent fj fk b c step) cs bs hs

-- one call that failed behind those
pub wants_behind : (f0 fj : Option Fuel) (calls bytes changes b c C B H : ℕ) → SpendsAll f0 fj calls bytes changes → Wants fj b c
    → calls + 1 ≤ C → bytes + b ≤ B → changes + c ≤ H → WantsAll f0 C B H
wants_behind f0 fj calls bytes changes b c C B H so_far wants cs bs hs =
    then_wants f0 fj calls bytes changes 1 b c C B H so_far (one_wants fj b c wants) cs bs hs
