-- What the tests of the checks tell, in plain terms.
use Prim.Native.Nat.{ℕ, ◌≤◌, ◌<◌}
use mathlib.Core.Bool.{Bool, true, false, not, ◌&&◌, ◌||◌, true≢false}
use mathlib.Core.Path.{◌≡◌, refl, sym}
use mathlib.Core.List.{List}
use mathlib.Core.Logic.{◌⊎◌, inl, inr}
use native.Mathlib.Omega.{arith}
use native.Mathlib.Decide.{dec_lt}
use lib.Dec.{ltb, leb, eqb}
use borrow.Author.Tests.{ltb-true, ltb-false, leb-true, leb-false, eqb-true, eqb-false}
use Rattle.counting.specs.Count.{some}
use Rattle.counting.proofs.Booleans.{clash}
use Rattle.counting.proofs.Tests.{some_true, some_holds}
use Rattle.paper.specs.Upload.{nodes_of, links_of, actions_of}
use Rattle.paper.specs.Table.{Table, OnePiece, one_piece}
use Rattle.paper.specs.Actions.{joins}
use Rattle.paper.specs.Refusals.{in_range, names_no_node, joins_itself, repeats}
use Rattle.paper.proofs.OnePiece.{one_piece_holds, one_piece_back}
use Rattle.table.specs.Checked.{InRange}
use Rattle.table.specs.ExactlyWhen.{NamesNoNode, JoinsItself, Repeats}

-- a test is true where P holds, and false where it doesn't
pub record Tells (b : Bool) (P : Type 0) : Type 0 where
  pub yields : b ≡ true → P
  pub denies : b ≡ false → P → ⊥

pub holds : (b : Bool) {P : Type 0} → Tells b P → P → b ≡ true
holds true t p = refl
holds false t p = absurd (t.denies refl p)

pub fails : (b : Bool) {P : Type 0} → Tells b P → (P → ⊥) → b ≡ false
fails true t p = absurd (p (t.yields refl))
fails false t p = refl

pub decided : (b : Bool) {P : Type 0} → Tells b P → Dec P
decided true t = yes (t.yields refl)
decided false t = no (t.denies refl)

pub tells_same : {b : Bool} {P Q : Type 0} → Tells b P → (P → Q) → (Q → P) → Tells b Q
tells_same t f g = record { yields = λ e. f (t.yields e); denies = λ e q. t.denies e (g q) }

pub tells_lt : (m n : ℕ) → Tells (ltb m n) (m < n)
tells_lt m n =
    record { yields = ltb-true m n; denies = λ e l. let above = ltb-false m n e in omega arith }

pub tells_le : (m n : ℕ) → Tells (leb m n) (m ≤ n)
tells_le m n =
    record { yields = leb-true m n; denies = λ e l. let above = leb-false m n e in omega arith }

pub tells_eq : (m n : ℕ) → Tells (eqb m n) (m ≡ n)
tells_eq m n = record { yields = eqb-true m n; denies = eqb-false m n }

pub tells_not : (b : Bool) {P : Type 0} → Tells b P → Tells (not b) (P → ⊥)
tells_not true t = record { yields = λ e. absurd (true≢false (sym e)); denies = λ e f. f (t.yields refl) }
tells_not false t = record { yields = λ e. t.denies refl; denies = λ e. absurd (true≢false e) }

pub tells_and : (a b : Bool) {P Q : Type 0} → Tells a P → Tells b Q → Tells (a && b) (P × Q)
tells_and true b s t = record { yields = λ e. (s.yields refl, t.yields e); denies = λ e p. t.denies e p.1 }
tells_and false b s t = record { yields = λ e. absurd (true≢false (sym e)); denies = λ e p. s.denies refl p.0 }

pub tells_or : (a b : Bool) {P Q : Type 0} → Tells a P → Tells b Q → Tells (a || b) (P ⊎ Q)
tells_or true b s t = record { yields = λ e. inl (s.yields refl); denies = λ e. absurd (true≢false e) }
tells_or false b {P} {Q} s t = record { yields = λ e. inr (t.yields e); denies = neither }
  where
    neither : b ≡ false → P ⊎ Q → ⊥
    neither e (inl p) = s.denies refl p
    neither e (inr q) = t.denies e q

pub tells_some : (n : ℕ) (p : ℕ → Bool) (P : ℕ → Type 0) → ((i : ℕ) → Tells (p i) (P i)) → Tells (some n p) ((i : ℕ) × (i < n) × P i)
tells_some n p P t =
    record {
      yields = λ e. let (i, l, f) = some_true n p e in (i, l, (t i).yields f);
      denies = λ e w. clash (some_holds n p w.0 w.1 (holds (p w.0) (t w.0) w.2)) e;
    }

pub tells_range : (upload : List ℕ) → Tells (in_range (nodes_of upload) (links_of upload) (actions_of upload)) (InRange upload)
tells_range upload =
    tells_same
    (tells_and _ _ (tells_and _ _ (tells_le _ _) (tells_le _ _)) (tells_and _ _ (tells_le _ _) (tells_le _ _)))
    (λ w. record { some_node = w.0.0; nodes_fit = w.0.1; links_fit = w.1.0; actions_fit = w.1.1 })
    (λ r. ((r.some_node, r.nodes_fit), (r.links_fit, r.actions_fit)))

module _ (t : Table) (i : ℕ) where
  pub tells_names : Tells (names_no_node t i) (NamesNoNode t i)
  tells_names =
      tells_same
      (tells_not _ (tells_and _ _ (tells_lt (t.end i false) t.nodes) (tells_lt (t.end i true) t.nodes)))
      (λ f. which f (dec_lt (t.end i false) t.nodes))
      (λ w p. neither w.0 w.1 p)
    where
      which : ((t.end i false < t.nodes) × (t.end i true < t.nodes) → ⊥) → Dec (t.end i false < t.nodes) → NamesNoNode t i
      which f (yes l) = let above : t.end i true < t.nodes → ⊥ = λ r. f (l, r) in (true, omega arith)
      which f (no l) = (false, omega arith)

      neither : (b : Bool) → t.nodes ≤ t.end i b → (t.end i false < t.nodes) × (t.end i true < t.nodes) → ⊥
      neither true l p = omega (arith, p.1)
      neither false l p = omega (arith, p.0)

  pub tells_itself : Tells (joins_itself t i) (JoinsItself t i)
  tells_itself = tells_eq _ _

  pub tells_repeats : Tells (repeats t i) (Repeats t i)
  tells_repeats =
      tells_same
      (tells_some i (joins t (t.end i false) (t.end i true)) Both
      (λ j. tells_or _ _ (tells_and _ _ (tells_eq _ _) (tells_eq _ _)) (tells_and _ _ (tells_eq _ _) (tells_eq _ _))))
      (λ w. there w.0 w.1 w.2)
      (λ w. (w.0, w.2, back w.0 w.1 w.3 w.4))
    where
      Both : ℕ → Type 0
      Both j =
          ((t.end j false ≡ t.end i false) × (t.end j true ≡ t.end i true))
          ⊎ ((t.end j false ≡ t.end i true) × (t.end j true ≡ t.end i false))

      there : (j : ℕ) → j < i → Both j → Repeats t i
      there j l (inl e) = (j, false, l, e.0, e.1)
      there j l (inr e) = (j, true, l, e.1, e.0)

      back : (j : ℕ) (b : Bool) → t.end j b ≡ t.end i false → t.end j (not b) ≡ t.end i true → Both j
      back j false p q = inl (p, q)
      back j true p q = inr (q, p)

pub tells_pieces : (t : Table) → Tells (one_piece t) (OnePiece t)
tells_pieces t =
    record { yields = one_piece_holds t; denies = λ e p. clash (one_piece_back t p) e }
