-- What is shown and counted, one part after another.
use Rattle.std.proofs.Common.{◌≡◌, ℕ, List, [], ◌∷◌, length, map, Vec, subst}
use Rattle.std.specs.List.{flat_map, range_with_len}
use Rattle.csv.specs.declared.writer.Writer.{Writer}
use Rattle.control_flow.specs.declared.greens.Green.{Green}
use Rattle.net_parts.specs.Numbers.{Net}
use Rattle.net_simulator.specs.Sums.{end_of_run}
use Rattle.net_simulator.specs.declared.totals.LinkTotals.{LinkTotals}
use Rattle.net_simulator.specs.declared.totals.Totals.{Totals}
use Rattle.world_records.specs.Records.{counted_records, counted_text, green_records, header, link_record_of, shown_records, total_record}
use Rattle.world_records.specs.Written.{Adds, HasWritten}
use Rattle.world_records.proofs.WrittenLaws.{adds-then}

-- the totals of each link and all totals are what is counted
pub counted-parts : {Z : Type 0} (net : Net) (links : List LinkTotals) (totals : Totals) (o0 o1 o2 : Writer (Vec ℕ Z)) → Adds o0 o1 (map (link_record_of net links) (range_with_len 0 (length net.link_names)))
    → Adds o1 o2 (total_record totals ∷ []) → Adds o0 o2 (counted_records net links totals)
counted-parts net links totals o0 o1 o2 each all = adds-then o0 o1 o2 _ _ each all

-- with the greens before them they are what is shown and counted
pub shown-parts : {Z : Type 0} (net : Net) (lines : List (List Green)) (links : List LinkTotals) (totals : Totals) (end : ℕ) (o0 o1 o2 : Writer (Vec ℕ Z)) → end ≡ end_of_run net
    → Adds o0 o1 (flat_map (green_records net lines end) (range_with_len 0 (length net.node_names))) → Adds o1 o2 (counted_records net links totals) → Adds o0 o2 (shown_records net lines links totals (end_of_run net))
shown-parts net lines links totals end o0 o1 o2 ends shown counted =
    let greens = subst (λ n. Adds o0 o1 (flat_map (green_records net lines n) (range_with_len 0 (length net.node_names)))) ends shown in
    adds-then o0 o1 o2 _ _ greens counted

-- after the header they are a text
pub counted-after : {Z : Type 0} (net : Net) (links : List LinkTotals) (totals : Totals) (o0 o1 o2 : Writer (Vec ℕ Z)) → HasWritten o0 [] → Adds o0 o1 (header ∷ []) → Adds o1 o2 (counted_records net links totals) → HasWritten o2 (counted_text net links totals)
counted-after net links totals o0 o1 o2 begins first counted = (adds-then o0 o1 o2 (header ∷ []) (counted_records net links totals) first counted).adds [] begins
