-- A table of links, link by link.
use Prim.Native.Nat.{ℕ, ◌+◌, ◌<◌}
use mathlib.Core.Bool.{Bool, true, false, cond, ◌&&◌, ◌||◌}
use mathlib.Core.List.{List}
use mathlib.Core.Path.{◌≡◌, ◌∙◌}
use native.Mathlib.Numerals.{add-one}
use native.Mathlib.Omega.{arith}
use Rattle.std.proofs.lemmas.Grind.{common_steps}
use Rattle.std.proofs.lemmas.Bool.Decides.{nat_tests}
use lib.ListN.{length, get_or, replicate, get_or-replicate}
use lib.Dec.{eqb}
use Rattle.std.specs.Prelude.{Option, Some, None, unwrap_or}
use Rattle.std.specs.Option.{ForSome}
use Rattle.counting.specs.Count.{least}
use Rattle.paper.specs.Table.{Table}
use Rattle.paper.specs.Actions.{link_between}
use Rattle.listing.specs.Links.{noted, Noted}

noted_at : (l : List (Option ℕ)) (x i a b y : ℕ) →
    (a ≡ b → ⊥) →
    a < length l →
    b < length l →
    get_or (noted l x i a b) y None ≡ cond ((eqb a x && eqb b y) || (eqb a y && eqb b x)) (Some i) (get_or l y None)
noted_at l x i a b y apart fromFits toFits = grind (arith, common_steps, nat_tests)

noted_size : (l : List (Option ℕ)) (x i a b : ℕ) → length (noted l x i a b) ≡ length l
noted_size l x i a b = grind (arith, common_steps)

-- a link, or else what stands there
some_or : (b : Bool) (i d : ℕ) (o : Option ℕ) → unwrap_or (cond b (Some i) o) d ≡ cond b i (unwrap_or o d)
some_or b i d o = grind arith

some_below : (b : Bool) (i m : ℕ) (o : Option ℕ) → i < m → ForSome o (λ k. k < m) → ForSome (cond b (Some i) o) (λ k. k < m)
some_below b i m o h g k e = grind (arith, g k)

-- nothing is noted yet
pub noted_none : (t : Table) (x : ℕ) → Noted t x t.links (replicate 64 None)
noted_none t x =
    record {
      size = grind (arith, common_steps);
      found = λ y h. rw (get_or-replicate {A = Option ℕ} 64 y None None h);
      links = λ y h. rw (get_or-replicate {A = Option ℕ} 64 y None None h) (λ k e. cc);
    }

-- link i is noted, before those behind it
pub noted_more : (t : Table) (x i : ℕ) (l : List (Option ℕ)) →
    i < t.links →
    (t.end i false ≡ t.end i true → ⊥) →
    t.end i false < 64 →
    t.end i true < 64 →
    Noted t x (i + 1) l →
    Noted t x i (noted l x i (t.end i false) (t.end i true))
unfolding least
noted_more t x i l below apart fromFits toFits before =
    let a = t.end i false in
    let b = t.end i true in
    record {
      size = noted_size l x i a b ∙ before.size;
      found = λ y h. rw (noted_at l x i a b y apart (omega arith) (omega arith), some_or) (rw add-one at (before.found y h));
      links = λ y h. rw (noted_at l x i a b y apart (omega arith) (omega arith)) (some_below _ i t.links (get_or l y None) below (before.links y h));
    }

-- all links are noted
pub noted_all : {t : Table} {x : ℕ} {l : List (Option ℕ)} → Noted t x 0 l → (y : ℕ) → y < 64 → unwrap_or (get_or l y None) t.links ≡ link_between t x y
unfolding least
noted_all all y h = all.found y h
