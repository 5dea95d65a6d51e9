-- Each refusal of the table is given exactly when document 01 says so, with the place that it says.
use Prim.Native.Nat.{ℕ, ◌≤◌, ◌<◌}
use mathlib.Core.Path.{◌≡◌, refl, sym, ap, subst₂, ◌∙◌}
use mathlib.Core.Logic.{◌⊎◌, inl, inr}
use mathlib.Core.List.{List}
use native.Mathlib.Omega.{arith}
use native.Mathlib.Decide.{dec_lt, dec_le, ℕ_discrete}
use lib.ListN.{length}
use borrow.Author.Tests.{lt-ltb, le-ltb, ne_eqb, eqb-false}
use Rattle.paper.specs.Upload.{nodes_of, links_of, actions_of, exact_length}
use Rattle.paper.specs.Table.{table_of, OnePiece, one_piece}
use Rattle.paper.specs.Refusals.{Refusal, table_refusal, link_refusal}
use Rattle.table.specs.Checked.{InRange, HeaderPasses, piece_refusal}
use Rattle.table.specs.ExactlyWhen.{OutOfRange, no_node, many_nodes, many_links, many_actions, WrongLength, under, inexact, NamesNoNode, JoinsItself, Repeats, LinksPass, Reaches, AllLinksPass, Given, ExactlyWhen}
use Rattle.table.proofs.Tells.{holds, fails, decided, tells_range, tells_pieces}
use Rattle.table.proofs.OneLink.{Why, named, itself, again, passing, why, link_names, link_itself, link_repeats, link_passes, link_passed}
use Rattle.table.proofs.Order.{Clear, Found, links_search}
use Rattle.table.proofs.Answers.{range_of, refused_short, refused_range, refused_length, header_passed, refused_link, passed_links}

out_of_range : {upload : List ℕ} → OutOfRange upload → InRange upload → ⊥
out_of_range (no_node h) r = omega (arith, r.some_node)
out_of_range (many_nodes h) r = omega (arith, r.nodes_fit)
out_of_range (many_links h) r = omega (arith, r.links_fit)
out_of_range (many_actions h) r = omega (arith, r.actions_fit)

-- which of n, m and a is out of range
which_range : (upload : List ℕ) → (InRange upload → ⊥) → OutOfRange upload
which_range upload h =
    go
    (dec_le 1 (nodes_of upload))
    (dec_le (nodes_of upload) 63)
    (dec_le (links_of upload) 126)
    (dec_le (actions_of upload) 1024)
  where
    go : Dec (1 ≤ nodes_of upload) → Dec (nodes_of upload ≤ 63) → Dec (links_of upload ≤ 126) → Dec (actions_of upload ≤ 1024) → OutOfRange upload
    go (no p) q r s = no_node (omega arith)
    go (yes p) (no q) r s = many_nodes (omega arith)
    go (yes p) (yes q) (no r) s = many_links (omega arith)
    go (yes p) (yes q) (yes r) (no s) = many_actions (omega arith)
    go (yes p) (yes q) (yes r) (yes s) = absurd (h (record { some_node = p; nodes_fit = q; links_fit = r; actions_fit = s }))

module _ (upload : List ℕ) where
  -- links that pass are clear to the code's tests
  clear_of : (k : ℕ) → LinksPass (table_of upload) k → Clear (table_of upload) 0 k
  clear_of k h l p q = link_passes (table_of upload) l (h l q)

  passes_of : (k : ℕ) → Clear (table_of upload) 0 k → LinksPass (table_of upload) k
  passes_of k h i p = link_passed (table_of upload) i (h i (omega arith) p)

  given_length : WrongLength upload → Given upload 3 0
  given_length (under h) = refused_short upload (lt-ltb _ _ h)
  given_length (inexact l r h) =
      refused_length upload (le-ltb _ _ l) (holds (range_of upload) (tells_range upload) r) (ne_eqb _ _ h)

  given_range : 4 ≤ length upload → OutOfRange upload → Given upload 4 0
  given_range l h =
      refused_range upload (le-ltb _ _ l) (fails (range_of upload) (tells_range upload) (out_of_range h))

  given_link : (number i : ℕ) → Reaches upload i → link_refusal (table_of upload) i ≡ record { number = number; place = i } → (number ≡ 0 → ⊥) → Given upload number i
  given_link number i r e bad =
      header_passed upload r.header
      ∙ refused_link upload i r.there (clear_of i r.earlier) (λ z. bad (sym (ap (λ (x : Refusal). x.number) e) ∙ z))
      ∙ e

  piece_reached : AllLinksPass upload → table_refusal upload ≡ piece_refusal upload
  piece_reached a =
      header_passed upload a.header ∙ passed_links upload (clear_of (links_of upload) a.links)

  -- a ground, with the number and the place that it gives
  data Ground : ℕ → ℕ → Type 0 where
    none : AllLinksPass upload → OnePiece (table_of upload) → Ground 0 0
    of_length : WrongLength upload → Ground 3 0
    of_range : 4 ≤ length upload → OutOfRange upload → Ground 4 0
    of_names : {i : ℕ} → Reaches upload i → NamesNoNode (table_of upload) i → Ground 5 i
    of_itself : {i : ℕ} → Reaches upload i → (NamesNoNode (table_of upload) i → ⊥) → JoinsItself (table_of upload) i → Ground 6 i
    of_again : {i : ℕ} → Reaches upload i → (NamesNoNode (table_of upload) i → ⊥) → (JoinsItself (table_of upload) i → ⊥) → Repeats (table_of upload) i → Ground 7 i
    of_pieces : AllLinksPass upload → (OnePiece (table_of upload) → ⊥) → Ground 8 0

  given : {number place : ℕ} → Ground number place → Given upload number place
  given (none a p) = piece_reached a ∙ rw (holds (one_piece (table_of upload)) (tells_pieces (table_of upload)) p)
  given (of_length h) = given_length h
  given (of_range l h) = given_range l h
  given (of_names {i} r h) = given_link 5 i r (link_names (table_of upload) i h) (eqb-false 5 0 refl)
  given (of_itself {i} r n h) = given_link 6 i r (link_itself (table_of upload) i n h) (eqb-false 6 0 refl)
  given (of_again {i} r n s h) = given_link 7 i r (link_repeats (table_of upload) i n s h) (eqb-false 7 0 refl)
  given (of_pieces a p) = piece_reached a ∙ rw (fails (one_piece (table_of upload)) (tells_pieces (table_of upload)) p)

  -- some ground
  Some : Type 0
  Some = (number : ℕ) × (place : ℕ) × Ground number place

  some_link : (i : ℕ) → Reaches upload i → ((link_refusal (table_of upload) i).number ≡ 0 → ⊥) → Some
  unfolding Some
  some_link i r bad = go (why (table_of upload) i)
    where
      go : Why (table_of upload) i → Some
      go (named h) = (5, i, of_names r h)
      go (itself n h) = (6, i, of_itself r n h)
      go (again n s h) = (7, i, of_again r n s h)
      go (passing p) = absurd (bad (link_passes (table_of upload) i p))

  some_piece : AllLinksPass upload → Dec (OnePiece (table_of upload)) → Some
  unfolding Some
  some_piece a (yes p) = (0, 0, none a p)
  some_piece a (no p) = (8, 0, of_pieces a p)

  some_later : HeaderPasses upload → Clear (table_of upload) 0 (links_of upload) ⊎ Found (table_of upload) (links_of upload) → Some
  some_later h (inl clear) =
      some_piece (record { header = h; links = passes_of (links_of upload) clear })
      (decided (one_piece (table_of upload)) (tells_pieces (table_of upload)))
  some_later h (inr f) =
      some_link f.place
      (record { header = h; there = f.below; earlier = passes_of f.place f.clear })
      f.refused

  some_ground : Some
  unfolding Some
  some_ground =
      go
      (dec_lt (length upload) 4)
      (decided (range_of upload) (tells_range upload))
      (ℕ_discrete (length upload) (exact_length upload))
    where
      go : Dec (length upload < 4) → Dec (InRange upload) → Dec (length upload ≡ exact_length upload) → Some
      go (yes l) r e = (3, 0, of_length (under l))
      go (no l) (no r) e = (4, 0, of_range (omega arith) (which_range upload r))
      go (no l) (yes r) (no e) = (3, 0, of_length (inexact (omega arith) r e))
      go (no l) (yes r) (yes e) =
          some_later (record { range = r; exact = e }) (links_search (table_of upload) (links_of upload))

  -- the ground of the refusal that is given
  ground : (number place : ℕ) → Given upload number place → Ground number place
  unfolding Some
  ground number place g =
      let w = some_ground in
      let same = sym (given w.2) ∙ g in
      subst₂ Ground (ap (λ (r : Refusal). r.number) same) (ap (λ (r : Refusal). r.place) same) w.2

  pub exactly_when : (place : ℕ) → ExactlyWhen upload place
  exactly_when place =
      record {
        accepted = (λ g. accepted (ground 0 place g), λ w. rw w.0 (given (none w.1 w.2)));
        wrong_length = (λ g. wrong_length (ground 3 place g), λ w. rw w.0 (given (of_length w.1)));
        out_of_range = (λ g. range (ground 4 place g), λ w. rw w.0 (given (of_range w.1 w.2)));
        names_no_node = (λ g. names (ground 5 place g), λ w. given (of_names w.0 w.1));
        joins_itself = (λ g. self (ground 6 place g), λ w. given (of_itself w.0 w.1 w.2));
        repeats = (λ g. repeated (ground 7 place g), λ w. given (of_again w.0 w.1 w.2 w.3));
        not_one_piece = (λ g. pieces (ground 8 place g), λ w. rw w.0 (given (of_pieces w.1 w.2)));
      }
    where
      accepted : {p : ℕ} → Ground 0 p → (p ≡ 0) × AllLinksPass upload × OnePiece (table_of upload)
      accepted (none a p) = (refl, a, p)

      wrong_length : {p : ℕ} → Ground 3 p → (p ≡ 0) × WrongLength upload
      wrong_length (of_length h) = (refl, h)

      range : {p : ℕ} → Ground 4 p → (p ≡ 0) × (4 ≤ length upload) × OutOfRange upload
      range (of_range l h) = (refl, l, h)

      names : {p : ℕ} → Ground 5 p → Reaches upload p × NamesNoNode (table_of upload) p
      names (of_names r h) = (r, h)

      self : {p : ℕ} → Ground 6 p → Reaches upload p × (NamesNoNode (table_of upload) p → ⊥) × JoinsItself (table_of upload) p
      self (of_itself r n h) = (r, n, h)

      repeated : {p : ℕ} → Ground 7 p → Reaches upload p × (NamesNoNode (table_of upload) p → ⊥) × (JoinsItself (table_of upload) p → ⊥) × Repeats (table_of upload) p
      repeated (of_again r n s h) = (r, n, s, h)

      pieces : {p : ℕ} → Ground 8 p → (p ≡ 0) × AllLinksPass upload × (OnePiece (table_of upload) → ⊥)
      pieces (of_pieces a p) = (refl, a, p)

  -- number 0 alone says that every check passes
  pub passes_all : (table_refusal upload).number ≡ 0 → AllLinksPass upload × OnePiece (table_of upload)
  passes_all h =
      let w = (exactly_when (table_refusal upload).place).accepted.0 (ap (λ n. record { number = n; place = (table_refusal upload).place }) h) in
      (w.1, w.2)
