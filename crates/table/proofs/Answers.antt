-- The refusal of an upload at each place where the checks end.
use Prim.Native.Nat.{ℕ, ◌<◌}
use mathlib.Core.Bool.{Bool, true, false, not}
use mathlib.Core.Path.{◌≡◌, refl, ap, ◌∙◌}
use mathlib.Core.List.{List, [], ◌∷◌}
use native.Mathlib.Omega.{arith}
use lib.ListN.{length}
use lib.Dec.{ltb, eqb}
use borrow.Author.Tests.{eq-eqb, le-ltb}
use Rattle.paper.specs.Upload.{nodes_of, links_of, actions_of, exact_length}
use Rattle.paper.specs.Table.{table_of, one_piece}
use Rattle.paper.specs.Refusals.{Refusal, first, given, in_range, link_refusal, links_refusal, refusal, table_refusal}
use Rattle.table.specs.Checked.{piece_refusal, links_then_piece, HeaderPasses}
use Rattle.table.proofs.Tells.{holds, tells_range}
use Rattle.table.proofs.Order.{Clear, first_skip, first_stop, links_at, links_clear}

-- n, m and a of an upload, tried for their ranges
abbrev pub range_of : List ℕ → Bool
range_of upload = in_range (nodes_of upload) (links_of upload) (actions_of upload)

module _ (upload : List ℕ) where
  pub refused_short : ltb (length upload) 4 ≡ true → table_refusal upload ≡ record { number = 3; place = 0 }
  unfolding refusal
  refused_short short = rw short

  module _ (long : ltb (length upload) 4 ≡ false) where
    pub refused_range : range_of upload ≡ false → table_refusal upload ≡ record { number = 4; place = 0 }
    unfolding refusal
    refused_range out = rw (long, out)

    module _ (range : range_of upload ≡ true) where
      pub refused_length : eqb (length upload) (exact_length upload) ≡ false → table_refusal upload ≡ record { number = 3; place = 0 }
      unfolding refusal
      refused_length off = rw (long, range, off)

      pub refused_later : eqb (length upload) (exact_length upload) ≡ true → table_refusal upload ≡ links_then_piece upload
      unfolding refusal
      refused_later exact = rw (long, range, exact)

  pub header_passed : HeaderPasses upload → table_refusal upload ≡ links_then_piece upload
  header_passed h =
      refused_later
      (le-ltb (length upload) 4 (omega (arith, h.exact)))
      (holds _ (tells_range upload) h.range)
      (eq-eqb _ _ h.exact)

  pub refused_link : (i : ℕ) → i < links_of upload → Clear (table_of upload) 0 i → ((link_refusal (table_of upload) i).number ≡ 0 → ⊥) → links_then_piece upload ≡ link_refusal (table_of upload) i
  refused_link i there clear bad =
      let t = table_of upload in
      let found = links_at t 0 (links_of upload) i (omega arith) (omega arith) clear bad in
      first_stop (links_refusal t 0 (links_of upload)) (piece_refusal upload ∷ []) (λ e. bad (rw found at e)) ∙ found

  pub passed_links : Clear (table_of upload) 0 (links_of upload) → links_then_piece upload ≡ piece_refusal upload
  passed_links clear =
      first_skip (links_refusal (table_of upload) 0 (links_of upload)) (piece_refusal upload ∷ [])
      (ap (λ (r : Refusal). r.number) (links_clear (table_of upload) 0 (links_of upload) (λ l p q. clear l p (omega arith))))
      ∙ alone (not (one_piece (table_of upload)))
    where
      alone : (b : Bool) → first (given b 8 0 ∷ []) ≡ given b 8 0
      alone true = refl
      alone false = refl
