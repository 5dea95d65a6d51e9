-- Each step is possible exactly when the plain words say so, and has the effect that they name and no other.
use Prim.Native.Nat.{ℕ, ◌<◌}
use mathlib.Core.Bool.{Bool, true, false, not, cond, ◌&&◌, beq}
use mathlib.Core.Path.{◌≡◌, refl, ap, ◌∙◌}
use mathlib.Core.Logic.{inl, inr, ⊎_elim, ◌↔◌}
use mathlib.Core.List.{[]}
use native.Mathlib.Omega.{arith}
use lib.Dec.{eqb, ltb}
use borrow.Author.Tests.{eq-eqb, eqb-true, lt-ltb, ltb-true}
use Rattle.paper.specs.Table.{Table, source, target}
use Rattle.paper.specs.State.{Message, State, none, request, acknowledgement}
use Rattle.paper.specs.Steps.{Step, children_known, add_child, acknowledge, resolve, become_root, possible, effect, at, at_direction, out_of, sends, is_request}
use Rattle.paper.specs.Published.{Edge, Pre, queue, queues, action_of}
use Rattle.paper.specs.Meanings.{SoundMarks}
use Rattle.paper.proofs.Published.{as_published}
use Rattle.counting.proofs.Booleans.{and_left, and_right, eqb_same, beq_same}
use Rattle.paper.proofs.Changes.{at_away, at_elim}
use Rattle.replay.specs.Promises.{Possible, SameButDirection, Effect}

empty_queue : (m : Message) → queue m ≡ [] → m ≡ none
empty_queue none e = refl
empty_queue request e = let z : ◌≡◌ {A = ℕ} 0 1 = cc in absurd (omega arith)
empty_queue acknowledgement e = let z : ◌≡◌ {A = ℕ} 0 1 = cc in absurd (omega arith)

-- what is asked of a step, in plain words, is the published automaton's Pre
asked : (t : Table) (s : State) (z : Step) → Pre t (queues s) (action_of z) ↔ Possible t s z
asked t s (children_known x) = (
  λ p. (p.0, p.1, λ i j b c l k e f. ⊎_elim inl (λ q. inr (⊎_elim inl (λ r. inr (ap (λ (d : Edge). d.link) r, ap (λ (d : Edge). d.end) r)) q)) (p.2 (record { link = i; end = b }) (record { link = j; end = c }) (l, e) (k, f))),
  λ p. (p.0, p.1, λ d e u v. ⊎_elim inl (λ q. inr (⊎_elim inl (λ r. inr (λ n. record { link = r.0 n; end = r.1 n })) q)) (p.2 d.link e.link d.end e.end u.0 v.0 u.1 v.1)),
)
asked t s (add_child i b) = (
  λ p. (p.0, p.1, λ e. p.2 (ap queue e)),
  λ p. (p.0, p.1, λ e. p.2 (empty_queue (s.message i b) e)),
)
asked t s (acknowledge i b) = (
  λ p. (p.0, p.1, λ e. p.2 (ap queue e)),
  λ p. (p.0, p.1, λ e. p.2 (empty_queue (s.message i b) e)),
)
asked t s (resolve i b) = (λ p. p, λ p. p)
asked t s (become_root x) = (
  λ p. (p.0, p.1, λ i b l e. p.2 (record { link = i; end = b }) (l, e)),
  λ p. (p.0, p.1, λ d u. p.2 d.link d.end u.0 u.1),
)

pub possible_plainly : (t : Table) (s : State) → SoundMarks t s → (z : Step) → (possible t s z ≡ true) ↔ Possible t s z
possible_plainly t s marks z =
    let same = (as_published t).same_possible s marks z in
    (λ e. (asked t s z).0 (same.0 e), λ p. same.1 ((asked t s z).1 p))

-- a value at its place, and elsewhere
at_place {ℓ} : {A : Type ℓ} (f : ℕ → A) (x : ℕ) (a : A) → at f x a x ≡ a
at_place f x a = rw (eqb_same x)

at_one_direction : {A : Type 0} (f : ℕ → Bool → A) (i : ℕ) (b : Bool) (a : A) → at_direction f i b a i b ≡ a
at_one_direction f i b a = rw (eqb_same i, beq_same b)

off_direction : {A : Type 0} (f : ℕ → Bool → A) (i : ℕ) (b : Bool) (a : A) → SameButDirection i b f (at_direction f i b a)
off_direction f i b a j c h = go (eqb j i) refl c b h
  where
    go : (d : Bool) → eqb j i ≡ d → (c b : Bool) → ((j ≡ i) × (c ≡ b) → ⊥) → cond (d && beq c b) a (f j c) ≡ f j c
    go false e c b h = refl
    go true e true false h = refl
    go true e false true h = refl
    go true e true true h = absurd (h (eqb-true j i e, refl))
    go true e false false h = absurd (h (eqb-true j i e, refl))

-- what x sends on a direction, and what stays
module _ (t : Table) (s : State) (x i : ℕ) (b : Bool) where
  sent : i < t.links → source t i b ≡ x → cond (out_of t x i b) (sends (s.child i (not b))) (s.message i b) ≡ sends (s.child i (not b))
  sent l e = rw (lt-ltb i t.links l, eq-eqb (source t i b) x e)

  not_sent : (i < t.links → source t i b ≡ x → ⊥) → cond (out_of t x i b) (sends (s.child i (not b))) (s.message i b) ≡ s.message i b
  not_sent h = go (out_of t x i b) refl
    where
      go : (d : Bool) → out_of t x i b ≡ d → cond d (sends (s.child i (not b))) (s.message i b) ≡ s.message i b
      go true e =
          absurd (h (ltb-true i t.links (and_left (ltb i t.links) _ e)) (eqb-true (source t i b) x (and_right (ltb i t.links) _ e)))
      go false e = refl

no_request : (m : Message) → (m ≡ request → ⊥) → is_request m ≡ false
no_request none h = refl
no_request request h = absurd (h refl)
no_request acknowledgement h = refl

pub effect_plainly : (t : Table) (s : State) (z : Step) → Effect t z s (effect t s z)
unfolding effect
effect_plainly t s (children_known x) =
    record {
      stops = at_place s.waiting x false;
      acknowledges = λ i b l e h. sent t s x i b l e ∙ ap sends h;
      requests = λ i b l e h. sent t s x i b l e ∙ ap sends h;
      waiting = at_away s.waiting x false;
      contending = λ u. refl;
      root = λ u. refl;
      child = λ j c. refl;
      message = λ i b h. not_sent t s x i b h;
    }
effect_plainly t s (add_child i b) =
    record {
      gets = at_one_direction s.child i b true;
      removed = at_one_direction s.message i b none;
      waiting = λ u. refl;
      contending = λ u. refl;
      root = λ u. refl;
      child = off_direction s.child i b true;
      message = off_direction s.message i b none;
    }
effect_plainly t s (acknowledge i b) =
    record {
      asked = λ e. at_place s.contending (target t i b) (is_request (s.message i b)) ∙ ap is_request e;
      answered = λ h. at_place s.contending (target t i b) (is_request (s.message i b)) ∙ no_request (s.message i b) h;
      removed = at_one_direction s.message i b none;
      waiting = λ u. refl;
      contending = at_away s.contending (target t i b) (is_request (s.message i b));
      root = λ u. refl;
      child = λ j c. refl;
      message = off_direction s.message i b none;
    }
effect_plainly t s (resolve i b) =
    record {
      gets = at_one_direction s.child i b true;
      first =
          at_elim (λ (v : Bool). v ≡ false) (at s.contending (source t i b) false) (target t i b) false (source t i b) (λ e. refl)
          (λ h. at_place s.contending (source t i b) false);
      second = at_place (at s.contending (source t i b) false) (target t i b) false;
      waiting = λ u. refl;
      contending = λ u h g. at_away (at s.contending (source t i b) false) (target t i b) false u g ∙ at_away s.contending (source t i b) false u h;
      root = λ u. refl;
      child = off_direction s.child i b true;
      message = λ j c. refl;
    }
effect_plainly t s (become_root x) =
    record {
      is_root = at_place s.root x true;
      waiting = λ u. refl;
      contending = λ u. refl;
      root = at_away s.root x true;
      child = λ j c. refl;
      message = λ j c. refl;
    }
