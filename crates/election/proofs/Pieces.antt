-- One piece as cuts: some link crosses out of every set that holds some of the nodes and not all.
use Prim.Native.Nat.{ℕ, ◌≤◌, ◌<◌}
use mathlib.Core.Bool.{Bool, true, false, not, true≢false, false≢true}
use mathlib.Core.Path.{◌≡◌, refl, ap₂, sym, ◌∙◌}
use native.Mathlib.Omega.{arith}
use native.Mathlib.Decide.{ℕ_discrete}
use lib.Dec.{eqb}
use borrow.Author.Tests.{lt-ltb, eq-eqb, ne_eqb, eqb-true}
use Rattle.paper.specs.Table.{Table, source, target, EndsBelow, OnePiece}
use Rattle.paper.specs.State.{fresh}
use Rattle.paper.specs.Stuck.{links_into}
use Rattle.paper.specs.Steps.{at}
use Rattle.paper.proofs.OnePiece.{one_piece_cut}
use Rattle.counting.proofs.Booleans.{clash}
use Rattle.election.proofs.Updates.{target_back, at_place, at_other}
use Rattle.election.proofs.Into.{into_one, into_two}

-- a direction between members of W that leaves S
pub record Crossing (t : Table) (W S : ℕ → Bool) : Type 0 where
  pub link : ℕ
  pub way : Bool
  pub known : link < t.links
  pub from : W (source t link way) ≡ true
  pub to : W (target t link way) ≡ true
  pub inner : S (source t link way) ≡ true
  pub outer : S (target t link way) ≡ false

-- W is in one piece: where S splits it, a direction inside W leaves S
abbrev pub InOnePiece : Table → (ℕ → Bool) → Type 0
InOnePiece t W =
    (S : ℕ → Bool) (x y : ℕ) → x < t.nodes → y < t.nodes → W x ≡ true → W y ≡ true → S x ≡ true → S y ≡ false → Crossing t W S

-- A table in one piece, by paths: all its nodes are in one piece, by cuts.
pub fresh_piece : (t : Table) → EndsBelow t → OnePiece t → InOnePiece t (fresh t).waiting
fresh_piece t below one S x y l m u v p q =
    let c = one_piece_cut t one S x y l m p q in
    record {
      link = c.0;
      way = c.1;
      known = c.2;
      from = lt-ltb (t.end c.0 c.1) t.nodes (below c.0 c.1 c.2);
      to = lt-ltb (t.end c.0 (not c.1)) t.nodes (below c.0 (not c.1) c.2);
      inner = c.3;
      outer = c.4;
    }

-- where f, changed at x to another value, has the value c: not at x, and f has it
pub elsewhere : (f : ℕ → Bool) (x : ℕ) {a c : Bool} → (a ≡ c → ⊥) → (j : ℕ) → at f x a j ≡ c → (j ≡ x → ⊥) × (f j ≡ c)
elsewhere f x {a} {c} d j e = go (ℕ_discrete j x)
  where
    go : Dec (j ≡ x) → (j ≡ x → ⊥) × (f j ≡ c)
    go (yes q) = absurd (d (sym (at_place f x a q) ∙ e))
    go (no n) = (n, sym (at_other f x a n) ∙ e)

module _ (t : Table) (W : ℕ → Bool) (x : ℕ) where
  -- x and another member of W: x has a link into W
  pub linked : InOnePiece t W → x < t.nodes → W x ≡ true → (y : ℕ) → y < t.nodes → W y ≡ true → (y ≡ x → ⊥) → 1 ≤ links_into t W x
  linked piece l w y m v d =
      let c = piece (λ j. eqb j x) x y l m w v (eq-eqb x x refl) (ne_eqb y x d) in
      into_one t x (λ i b. W (source t i b)) c.link (not c.way) c.known (target_back t c.link c.way ∙ eqb-true (source t c.link c.way) x c.inner) c.to

  -- A node with at most one link into W leaves the rest of W in one piece.
  pub peeled_piece : InOnePiece t W → links_into t W x ≤ 1 → InOnePiece t (at W x false)
  peeled_piece piece few S y z l m u v p q = first (crosses false)
    where
      -- y and z are members of W, and not x
      at_y : (y ≡ x → ⊥) × (W y ≡ true)
      at_y = elsewhere W x false≢true y u

      at_z : (z ≡ x → ⊥) × (W z ≡ true)
      at_z = elsewhere W x false≢true z v

      -- S splits W, whether x is counted inside or outside
      crosses : (a : Bool) → Crossing t W (at S x a)
      crosses a = piece (at S x a) y z l m at_y.1 at_z.1 (at_other S x a at_y.0 ∙ p) (at_other S x a at_z.0 ∙ q)

      -- a crossing that does not touch x
      clear : (a : Bool) (c : Crossing t W (at S x a)) → (source t c.link c.way ≡ x → ⊥) → (target t c.link c.way ≡ x → ⊥) → Crossing t (at W x false) S
      clear a c d e =
          record {
            link = c.link;
            way = c.way;
            known = c.known;
            from = at_other W x false d ∙ c.from;
            to = at_other W x false e ∙ c.to;
            inner = sym (at_other S x a d) ∙ c.inner;
            outer = sym (at_other S x a e) ∙ c.outer;
          }

      -- one crossing goes to x, the other comes from x: two links from x into W
      second : (c : Crossing t W (at S x false)) → target t c.link c.way ≡ x → (d : Crossing t W (at S x true)) → Crossing t (at W x false) S
      second c e d = go (ℕ_discrete (source t d.link d.way) x)
        where
          near : (source t c.link c.way ≡ x → ⊥) × (S (source t c.link c.way) ≡ true)
          near = elsewhere S x false≢true (source t c.link c.way) c.inner

          far : (target t d.link d.way ≡ x → ⊥) × (S (target t d.link d.way) ≡ false)
          far = elsewhere S x true≢false (target t d.link d.way) d.outer

          go : Dec (source t d.link d.way ≡ x) → Crossing t (at W x false) S
          go (no n) = clear true d n far.0
          go (yes f) =
              let two = into_two t x (λ i b. W (source t i b)) c.link c.way d.link (not d.way) c.known d.known e (target_back t d.link d.way ∙ f) c.from d.to (λ same. clash near.1 (sym (ap₂ (λ i b. S (t.end i b)) same.0 same.1) ∙ far.1)) in
              absurd (omega arith)

      first : Crossing t W (at S x false) → Crossing t (at W x false) S
      first c = go (ℕ_discrete (target t c.link c.way) x)
        where
          go : Dec (target t c.link c.way ≡ x) → Crossing t (at W x false) S
          go (yes e) = second c e (crosses true)
          go (no n) = clear false c (elsewhere S x false≢true (source t c.link c.way) c.inner).0 n
