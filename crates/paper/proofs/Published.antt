-- The steps of a table are the published automaton's actions.
use Prim.Native.Nat.{ℕ, ◌<◌}
use mathlib.Core.Bool.{Bool, true, false, not, cond, ◌&&◌, beq, true≢false, false≢true}
use mathlib.Core.Path.{◌≡◌, refl, sym, ap, ◌∙◌, fun_ext}
use mathlib.Core.Logic.{◌⊎◌, inl, inr, ⊎_elim, ◌↔◌}
use mathlib.Core.List.{List, [], ◌∷◌}
use lib.Dec.{eqb, ltb, leb}
use borrow.Author.Tests.{eqb-true, eq-eqb, ltb-true, lt-ltb, leb-true, le-leb, not-true}
use Rattle.counting.specs.Count.{bit}
use Rattle.std.proofs.lemmas.Bool.{and_from, cases_Bool}
use Rattle.counting.proofs.Booleans.{and_left, and_right}
use Rattle.counting.proofs.Bits.{bit_false}
use Rattle.counting.proofs.Directions.{both_none, both_zero, both_same, both_unique}
use Rattle.paper.specs.Table.{Table}
use Rattle.paper.specs.State.{Message, none, request, acknowledgement, State}
use Rattle.paper.specs.Steps.{Step, children_known, add_child, acknowledge, resolve, become_root, possible, effect, unheard, carries, is_request, sends, out_of, at, at_direction}
use Rattle.paper.specs.Meanings.{SoundMarks}
use Rattle.paper.specs.Published.{Edge, To, inverse, from, empty, hd, tl, append, assign_edge, Action, ADD_CHILD, ACK, ROOT, CHILDREN_KNOWN, RESOLVE_CONTENTION, Pre, Eff, queue, queues, action_of, AsPublished}

-- a test of three parts, and what each says
three : {A B C : Type 0} (a b c : Bool) → (a ≡ true) ↔ A → (b ≡ true) ↔ B → (c ≡ true) ↔ C → (a && (b && c) ≡ true) ↔ (A × B × C)
three a b c f g h = (λ e. (f.0 (and_left a _ e), g.0 (and_left b c (and_right a _ e)), h.0 (and_right b c (and_right a _ e))), λ k. and_from _ _ (f.1 k.0) (and_from _ _ (g.1 k.1) (h.1 k.2)))

below : (i m : ℕ) → (ltb i m ≡ true) ↔ (i < m)
below i m = (ltb-true i m, lt-ltb i m)

as_is : (b : Bool) → (b ≡ true) ↔ (b ≡ true)
as_is b = (λ e. e, λ e. e)

as_not : (b : Bool) → (not b ≡ true) ↔ (b ≡ false)
as_not b = (not-true b, λ e. ap not e)

-- a queue that holds something
holds : List Bool → Bool
holds [] = false
holds (b ∷ q) = true

as_queue : (m : Message) → (carries m ≡ true) ↔ (queue m ≡ empty → ⊥)
unfolding holds
as_queue none = (λ e. absurd (false≢true e), λ h. absurd (h refl))
as_queue request = (λ e q. true≢false (ap holds q), λ h. refl)
as_queue acknowledgement = (λ e q. true≢false (ap holds q), λ h. refl)

-- the directions into x that lack child
abbrev lacks : Table → State → ℕ → ℕ → Bool → Bool
lacks t s x i b = eqb (t.end i (not b)) x && not (s.child i b)

lacks_child : (t : Table) (s : State) (x : ℕ) (e : Edge) → To t x e → s.child e.link e.end ≡ false → lacks t s x e.link e.end ≡ true
lacks_child t s x e to h = and_from _ _ (eq-eqb _ _ to.1) (ap not h)

lacks_to : (t : Table) (s : State) (x i : ℕ) (b : Bool) → i < t.links → lacks t s x i b ≡ true → To t x (record { link = i; end = b })
lacks_to t s x i b h e = (h, eqb-true _ _ (and_left (eqb (t.end i (not b)) x) _ e))

lacks_none : (t : Table) (s : State) (x i : ℕ) (b : Bool) → lacks t s x i b ≡ true → s.child i b ≡ true → ⊥
lacks_none t s x i b e h = true≢false (sym h ∙ not-true _ (and_right (eqb (t.end i (not b)) x) _ e))

heard_by_all : (t : Table) (s : State) (x : ℕ) → (eqb (unheard t s x) 0 ≡ true) ↔ ((e : Edge) → To t x e → s.child e.link e.end ≡ true)
heard_by_all t s x = (all_heard, none_lacks)
  where
    all_heard : eqb (unheard t s x) 0 ≡ true → (e : Edge) → To t x e → s.child e.link e.end ≡ true
    all_heard zero e to = ⊎_elim (λ h. h) (λ h. absurd (true≢false (sym (lacks_child t s x e to h) ∙ both_zero t.links (lacks t s x) (eqb-true _ _ zero) e.link e.end to.0))) (cases_Bool (s.child e.link e.end))

    none_lacks : ((e : Edge) → To t x e → s.child e.link e.end ≡ true) → eqb (unheard t s x) 0 ≡ true
    none_lacks all = eq-eqb _ _ (both_none t.links (λ i b. bit (lacks t s x i b)) (λ i b h. bit_false (⊎_elim (λ e. absurd (lacks_none t s x i b e (all _ (lacks_to t s x i b h e)))) (λ e. e) (cases_Bool (lacks t s x i b)))))

heard_but_one : (t : Table) (s : State) (x : ℕ) → (leb (unheard t s x) 1 ≡ true) ↔ ((e f : Edge) → To t x e → To t x f → (s.child e.link e.end ≡ true) ⊎ (s.child f.link f.end ≡ true) ⊎ (e ≡ f))
heard_but_one t s x = (pairwise, at_most_one)
  where
    pairwise : leb (unheard t s x) 1 ≡ true → (e f : Edge) → To t x e → To t x f → (s.child e.link e.end ≡ true) ⊎ (s.child f.link f.end ≡ true) ⊎ (e ≡ f)
    pairwise one e f to also = go (cases_Bool (s.child e.link e.end)) (cases_Bool (s.child f.link f.end))
      where
        go : (s.child e.link e.end ≡ true) ⊎ (s.child e.link e.end ≡ false) → (s.child f.link f.end ≡ true) ⊎ (s.child f.link f.end ≡ false) → (s.child e.link e.end ≡ true) ⊎ (s.child f.link f.end ≡ true) ⊎ (e ≡ f)
        go (inl h) r = inl h
        go (inr h) (inl g) = inr (inl g)
        go (inr h) (inr g) =
            let same = both_same t.links (lacks t s x) (leb-true _ _ one) e.link e.end f.link f.end to.0 also.0 (lacks_child t s x e to h) (lacks_child t s x f also g) in
            inr (inr (λ k. record { link = same.0 k; end = same.1 k }))

    at_most_one : ((e f : Edge) → To t x e → To t x f → (s.child e.link e.end ≡ true) ⊎ (s.child f.link f.end ≡ true) ⊎ (e ≡ f)) → leb (unheard t s x) 1 ≡ true
    at_most_one pair = le-leb _ _ (both_unique t.links (lacks t s x) (λ i b j c h g e f. go i b j c e f (pair _ _ (lacks_to t s x i b h e) (lacks_to t s x j c g f))))
      where
        go : (i : ℕ) (b : Bool) (j : ℕ) (c : Bool) → lacks t s x i b ≡ true → lacks t s x j c ≡ true → (s.child i b ≡ true) ⊎ (s.child j c ≡ true) ⊎ (◌≡◌ {A = Edge} (record { link = i; end = b }) (record { link = j; end = c })) → (i ≡ j) × (b ≡ c)
        go i b j c e f (inl h) = absurd (lacks_none t s x i b e h)
        go i b j c e f (inr (inl h)) = absurd (lacks_none t s x j c f h)
        go i b j c e f (inr (inr h)) = (ap (λ (e : Edge). e.link) h, ap (λ (e : Edge). e.end) h)

same_possible : (t : Table) (s : State) (x : Step) → (possible t s x ≡ true) ↔ Pre t (queues s) (action_of x)
unfolding possible
same_possible t s (children_known x) = three _ _ _ (below x t.nodes) (as_is (s.waiting x)) (heard_but_one t s x)
same_possible t s (add_child i b) = three _ _ _ (below i t.links) (as_is (s.waiting (t.end i (not b)))) (as_queue (s.message i b))
same_possible t s (acknowledge i b) = three _ _ _ (below i t.links) (as_not (s.waiting (t.end i (not b)))) (as_queue (s.message i b))
same_possible t s (resolve i b) = three _ _ _ (below i t.links) (as_is (s.contending (t.end i b))) (as_is (s.contending (t.end i (not b))))
same_possible t s (become_root x) = three _ _ _ (below x t.nodes) (as_not (s.root x)) (heard_by_all t s x)

-- the queue of a message that is sent, taken, or set on a direction
queue_sends : (c : Bool) → queue (sends c) ≡ append c empty
queue_sends true = refl
queue_sends false = refl

queue_taken : (m : Message) → tl (queue m) ≡ queue none
queue_taken none = refl
queue_taken request = refl
queue_taken acknowledgement = refl

queue_request : (m : Message) → carries m ≡ true → not (hd (queue m)) ≡ is_request m
queue_request none e = absurd (false≢true e)
queue_request request e = refl
queue_request acknowledgement e = refl

-- the queues where the message of one direction is taken
queues_taken : (s : State) (e : Edge) → assign_edge (queues s).mq e (tl ((queues s).mq e)) ≡ (λ g. queue (at_direction s.message e.link e.end none g.link g.end))
queues_taken s e = fun_ext (λ g. go g (eqb g.link e.link && beq g.end e.end))
  where
    go : (g : Edge) (d : Bool) → cond d (tl ((queues s).mq e)) ((queues s).mq g) ≡ queue (cond d none (s.message g.link g.end))
    go g true = queue_taken (s.message e.link e.end)
    go g false = refl

-- the queues where a node that waited sends on every direction out of it
queues_sent : (t : Table) (s : State) → SoundMarks t s → (x : ℕ) → s.waiting x ≡ true → (e : Edge) → cond (from t x e) (append ((queues s).child (inverse e)) ((queues s).mq e)) ((queues s).mq e) ≡ queue (cond (out_of t x e.link e.end) (sends (s.child e.link (not e.end))) (s.message e.link e.end))
queues_sent t s marks x waits e = go (from t x e) refl
  where
    back : Bool
    back = s.child e.link (not e.end)

    go : (d : Bool) → from t x e ≡ d → cond d (append back ((queues s).mq e)) ((queues s).mq e) ≡ queue (cond d (sends back) (s.message e.link e.end))
    go true out =
        let inside = ltb-true _ _ (and_left (ltb e.link t.links) _ out) in
        let from_x = eqb-true _ _ (and_right (ltb e.link t.links) _ out) in
        let quiet = marks e.link e.end inside (ap s.waiting from_x ∙ waits) in
        ap (λ m. append back (queue m)) quiet ∙ sym (queue_sends back)
    go false out = refl

same_effect : (t : Table) (s : State) → SoundMarks t s → (x : Step) → possible t s x ≡ true → Eff t (queues s) (action_of x) ≡ queues (effect t s x)
unfolding effect Eff
same_effect t s marks (children_known x) e =
    let waits = ((same_possible t s (children_known x)).0 e).1 in
    λ k. record { init = at s.waiting x false; contention = s.contending; root = s.root; child = (queues s).child; mq = fun_ext (queues_sent t s marks x waits) k }
same_effect t s marks (add_child i b) e =
    λ k. record { init = s.waiting; contention = s.contending; root = s.root; child = λ g. at_direction s.child i b true g.link g.end; mq = queues_taken s (record { link = i; end = b }) k }
same_effect t s marks (acknowledge i b) e =
    let carried = (as_queue (s.message i b)).1 ((same_possible t s (acknowledge i b)).0 e).2 in
    λ k. record { init = s.waiting; contention = at s.contending (t.end i (not b)) (queue_request (s.message i b) carried k); root = s.root; child = (queues s).child; mq = queues_taken s (record { link = i; end = b }) k }
same_effect t s marks (resolve i b) e = refl
same_effect t s marks (become_root x) e = refl

step_of : (a : Action) → (x : Step) × (action_of x ≡ a)
step_of (ADD_CHILD e) = (add_child e.link e.end, refl)
step_of (ACK e) = (acknowledge e.link e.end, refl)
step_of (ROOT v) = (become_root v, refl)
step_of (CHILDREN_KNOWN v) = (children_known v, refl)
step_of (RESOLVE_CONTENTION e) = (resolve e.link e.end, refl)

pub as_published : (t : Table) → AsPublished t
as_published t =
    record {
      starts =
          record {
            init = λ v h. lt-ltb v t.nodes h;
            contention = λ v h. refl;
            root = λ v h. refl;
            child = λ e h. refl;
            mq = λ e h. refl;
          };
      every = step_of;
      same_possible = λ s marks. same_possible t s;
      same_effect = λ s marks. same_effect t s marks;
    }
