-- The examples hold by computing.
use Prim.Native.Nat.{ℕ, ◌+◌, ◌<◌}
use mathlib.Core.Bool.{Bool, true, false, not, ◌&&◌, and-eq-true_iff}
use mathlib.Core.Path.{◌≡◌, refl}
use mathlib.Core.List.{List, []}
use lib.Dec.{ltb, leb, eqb}
use lib.ListN.{length}
use borrow.Author.Tests.{ltb-true, leb-true, eq-eqb, not-true}
use Rattle.counting.specs.Count.{sum, all, some, least}
use Rattle.paper.specs.Table.{Table, table_of, labels, one_piece}
use Rattle.paper.specs.State.{fresh}
use Rattle.paper.specs.Steps.{Step, possible, effect, after, taken, resolved}
use Rattle.paper.specs.Report.{moving}
use Rattle.paper.specs.Actions.{reading}
use Rattle.paper.specs.Refusals.{links_refusal, refusal}
use Rattle.paper.specs.Calls.{replay_from, replayed, replay_behind}
use Rattle.paper.specs.Stuck.{size, border}
use Rattle.paper.specs.Replays.{P3, P8, P9, P10, P12_table}
use Rattle.paper.specs.Examples.{two_loops, tail}
use Rattle.counting.proofs.Booleans.{clash}
use Rattle.counting.proofs.Tests.{all_true}
use Rattle.paper.proofs.OnePiece.{one_piece_holds}
use Rattle.paper.proofs.Moving.{moving_still}
use Rattle.election.specs.Demand.{reached_by, NamesFrom, LogIsRun, IsLogOf}
use Rattle.election.specs.Examples.{chain_run, contending_run, loop_run, tail_run, Example, Elects, Sticks, Examples}
use Rattle.election.proofs.AddedUp.{Without, With, chain_adds_up, contending_adds_up, loop_adds_up, tail_adds_up, between_adds_up, links_adds_up}
use Rattle.election.proofs.Election.{end_stuck}
use Rattle.election.proofs.LogOf.{is_log}

-- link i joins two nodes of the table
abbrev joins_two : Table → ℕ → Bool
joins_two t i = ltb (t.end i false) t.nodes && (ltb (t.end i true) t.nodes && not (eqb (t.end i false) (t.end i true)))

-- an example, worked out
computed : (t : Table) (xs : List Step) → ltb 0 t.nodes ≡ true → all t.links (joins_two t) ≡ true → one_piece t ≡ true → taken t (fresh t) xs ≡ true → moving t (reached_by t xs) ≡ false → Example t xs
computed t xs one links piece run rest =
    record {
      one = ltb-true 0 t.nodes one;
      below = end;
      apart = λ i l e. clash (eq-eqb (t.end i false) (t.end i true) e) (not-true (eqb (t.end i false) (t.end i true)) (joins i l).2);
      joined = one_piece_holds t piece;
      ended = (run, (moving_still t (reached_by t xs)).0 rest);
    }
  where
    joins : (i : ℕ) → i < t.links → (ltb (t.end i false) t.nodes ≡ true) × (ltb (t.end i true) t.nodes ≡ true) × (not (eqb (t.end i false) (t.end i true)) ≡ true)
    joins i l =
        let first = (and-eq-true_iff (ltb (t.end i false) t.nodes) (ltb (t.end i true) t.nodes && not (eqb (t.end i false) (t.end i true)))).0 (all_true t.links (joins_two t) links i l) in
        let second = (and-eq-true_iff (ltb (t.end i true) t.nodes) (not (eqb (t.end i false) (t.end i true)))).0 first.1 in
        (first.0, second.0, second.1)

    end : (i : ℕ) (b : Bool) → i < t.links → t.end i b < t.nodes
    end i false l = ltb-true (t.end i false) t.nodes (joins i l).0
    end i true l = ltb-true (t.end i true) t.nodes (joins i l).1

-- with the stuck set that it leaves
sticks : (t : Table) (xs : List Step) (steps k out : ℕ) → Example t xs → leb t.nodes t.links ≡ true → length xs ≡ steps → size t (reached_by t xs).waiting ≡ k → border t (reached_by t xs).waiting ≡ out → With t xs → Sticks t xs steps k out
sticks t xs steps k out e loop taking holding bordering added =
    record {
      example = e;
      loop = leb-true t.nodes t.links loop;
      taking = taking;
      stuck = end_stuck t e.one e.below e.apart e.joined xs e.ended;
      holding = holding;
      bordering = bordering;
      every = added.0;
      end = added.1;
    }

elects : (t : Table) (xs : List Step) (steps contentions : ℕ) → Example t xs → t.links + 1 ≡ t.nodes → length xs ≡ steps → resolved xs ≡ contentions → Without t xs → Elects t xs steps contentions
elects t xs steps contentions e no_loop taking resolving added =
    record { example = e; no_loop = no_loop; taking = taking; resolving = resolving; every = added.0; end = added.1 }

-- P3 read as a log
contending_named : NamesFrom P3 0 contending_run
unfolding least reading
contending_named = (refl, (refl, (refl, (refl, (refl, (refl, tt))))))

contending_log_is : LogIsRun P3 contending_run
unfolding sum all some least labels one_piece links_refusal refusal reading possible effect after taken moving replay_from replayed replay_behind
contending_log_is =
    record {
      replays = record { named = contending_named; run = refl; steps = refl; state = refl };
      every = refl;
      answer = refl;
    }

-- the log that is built of the run is P3, byte for byte
log_of_contending_is : IsLogOf P12_table contending_run P3
unfolding sum all some labels one_piece links_refusal refusal possible effect taken
log_of_contending_is = is_log P12_table refl contending_run refl

pub examples_hold : Examples
unfolding sum all some labels one_piece possible effect after taken resolved moving
examples_hold =
    record {
      chain = elects (table_of P9) chain_run 8 0 (computed (table_of P9) chain_run refl refl refl refl refl) refl refl refl chain_adds_up;
      contending = elects (table_of P3) contending_run 6 1 (computed (table_of P3) contending_run refl refl refl refl refl) refl refl refl contending_adds_up;
      loop = sticks (table_of P8) loop_run 2 3 1 (computed (table_of P8) loop_run refl refl refl refl refl) refl refl refl refl loop_adds_up;
      behind_loop = sticks (table_of tail) tail_run 5 3 1 (computed (table_of tail) tail_run refl refl refl refl refl) refl refl refl refl tail_adds_up;
      between_loops = sticks (table_of two_loops) [] 0 7 0 (computed (table_of two_loops) [] refl refl refl refl refl) refl refl refl refl between_adds_up;
      two_links = sticks (table_of P10) [] 0 2 0 (computed (table_of P10) [] refl refl refl refl refl) refl refl refl refl links_adds_up;
      contending_log = contending_log_is;
      log_of_contending = log_of_contending_is;
    }
