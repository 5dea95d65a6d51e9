-- The checks of a table as one list, and that none gives a number above 8.
use Prim.Native.Nat.{ℕ, zero, suc, ◌≤◌}
use native.Mathlib.Omega.{arith}
use mathlib.Core.Bool.{Bool, true, false, not, cond}
use mathlib.Core.List.{List, [], ◌∷◌, ◌++◌}
use lib.ListN.{length}
use lib.Dec.{ltb, eqb}
use Rattle.paper.specs.Upload.{nodes_of, links_of, actions_of, exact_length}
use Rattle.paper.specs.Table.{Table, table_of, one_piece}
use Rattle.paper.specs.Refusals.{Refusal, accepted, given, first, in_range, names_no_node, joins_itself, repeats, link_refusal, links_refusal, refusal, table_refusal}

-- the five checks of a table
unfoldable pub table_checks : List ℕ → List Refusal
table_checks upload =
    given (ltb (length upload) 4) 3 0
    ∷ given (not (in_range (nodes_of upload) (links_of upload) (actions_of upload))) 4 0
    ∷ given (not (eqb (length upload) (exact_length upload))) 3 0
    ∷ links_refusal (table_of upload) 0 (links_of upload)
    ∷ given (not (one_piece (table_of upload))) 8 0
    ∷ []

-- every number of a list is at most k
abbrev Most : ℕ → List Refusal → Type 0
Most k [] = Unit {0}
Most k (r ∷ rs) = (r.number ≤ k) × Most k rs

first_most : (k : ℕ) (rs : List Refusal) → Most k rs → (first rs).number ≤ k
first_most k [] h = omega arith
first_most k (r ∷ rs) h = pick (eqb r.number 0) (first_most k rs h.1)
  where
    pick : (b : Bool) → (first rs).number ≤ k → (cond b (first rs) r).number ≤ k
    pick true p = p
    pick false p = h.0

given_most : (k number place : ℕ) (b : Bool) → number ≤ k → (given b number place).number ≤ k
given_most k number place true h = h
given_most k number place false h = omega arith

link_most : (t : Table) (i : ℕ) → (link_refusal t i).number ≤ 8
link_most t i =
    first_most 8 (given (names_no_node t i) 5 i ∷ given (joins_itself t i) 6 i ∷ given (repeats t i) 7 i ∷ [])
    (given_most 8 5 i (names_no_node t i) (omega arith), (given_most 8 6 i (joins_itself t i) (omega arith), (given_most 8 7 i (repeats t i) (omega arith), tt)))

links_most : (t : Table) (i k : ℕ) → (links_refusal t i k).number ≤ 8
unfolding links_refusal
links_most t i zero = omega arith
links_most t i (suc k) = first_most 8 (link_refusal t i ∷ links_refusal t (suc i) k ∷ []) (link_most t i, (links_most t (suc i) k, tt))

checks_most : (upload : List ℕ) → Most 8 (table_checks upload ++ (accepted ∷ accepted ∷ accepted ∷ []))
unfolding table_checks
checks_most upload =
    let t = table_of upload in
    (given_most 8 3 0 (ltb (length upload) 4) (omega arith), (given_most 8 4 0 (not (in_range (nodes_of upload) (links_of upload) (actions_of upload))) (omega arith), (given_most 8 3 0 (not (eqb (length upload) (exact_length upload))) (omega arith), (links_most t 0 (links_of upload), (given_most 8 8 0 (not (one_piece t)) (omega arith), (omega arith, (omega arith, (omega arith, tt))))))))

pub table_most : (upload : List ℕ) → (table_refusal upload).number ≤ 8
unfolding refusal table_checks
table_most upload = first_most 8 (table_checks upload ++ (accepted ∷ accepted ∷ accepted ∷ [])) (checks_most upload)
