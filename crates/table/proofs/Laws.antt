-- What an accepted upload gives to its readers.
use Prim.Native.Nat.{ℕ, ◌<◌}
use mathlib.Core.Bool.{Bool, true, false, not}
use mathlib.Core.Path.{◌≡◌, refl, sym}
use mathlib.Core.List.{List}
use native.Mathlib.Omega.{arith}
use native.Mathlib.Decide.{dec_lt}
use Rattle.paper.specs.Upload.{links_of}
use Rattle.paper.specs.Table.{Table, table_of, one_piece}
use Rattle.paper.specs.Refusals.{accepted, table_refusal}
use Rattle.paper.specs.Meanings.{NoRepeat}
use Rattle.paper.proofs.OnePiece.{one_piece_holds, one_piece_cut}
use Rattle.cabling.specs.Accepted.{Accepted}
use Rattle.table.specs.Checked.{HeaderPasses}
use Rattle.table.specs.ExactlyWhen.{LinksPass}
use Rattle.table.proofs.OneLink.{passed_ends}
use Rattle.table.proofs.ExactlyWhen.{exactly_when, passes_all}

-- of two links that join the same two nodes, neither is the earlier
repeats_none : (t : Table) → LinksPass t t.links → NoRepeat t
repeats_none t pass i j b i< j< p q = go (dec_lt i j) (dec_lt j i)
  where
    mirrored : (c : Bool) → t.end i false ≡ t.end j c → t.end i true ≡ t.end j (not c) → t.end i c ≡ t.end j false
    mirrored false p q = p
    mirrored true p q = q

    mirrored_not : (c : Bool) → t.end i false ≡ t.end j c → t.end i true ≡ t.end j (not c) → t.end i (not c) ≡ t.end j true
    mirrored_not false p q = q
    mirrored_not true p q = p

    go : Dec (i < j) → Dec (j < i) → i ≡ j
    go (yes l) r = absurd ((pass j j<).new (i, b, l, mirrored b p q, mirrored_not b p q))
    go (no l) (yes r) = absurd ((pass i i<).new (j, b, r, sym p, sym q))
    go (no l) (no r) = omega arith

-- an upload that passes every check is accepted
pub accepted_table : {upload : List ℕ} → HeaderPasses upload → LinksPass (table_of upload) (links_of upload) → one_piece (table_of upload) ≡ true → table_refusal upload ≡ accepted
accepted_table {upload} header links piece =
    (exactly_when upload 0).accepted.1 (refl, record { header = header; links = links }, one_piece_holds (table_of upload) piece)

pub accepted_laws : (upload : List ℕ) → (table_refusal upload).number ≡ 0 → Accepted upload
accepted_laws upload h =
    let t = table_of upload in
    let w = passes_all upload h in
    let range = w.0.header.range in
    record {
      some_node = range.some_node;
      nodes_fit = range.nodes_fit;
      links_fit = range.links_fit;
      actions_fit = range.actions_fit;
      exact = w.0.header.exact;
      ends = λ i b l. passed_ends t i (w.0.links i l) b;
      no_self = λ i l e. (w.0.links i l).apart e;
      no_repeat = repeats_none t w.0.links;
      piece = w.1;
      cut = one_piece_cut t w.1;
    }
