-- A clean sheet is clean with the greens alone that a report tells.
use Rattle.std.specs.Prelude.{IfSome}
use Rattle.std.proofs.Common.{◌≡◌, ℕ, ◌<◌, Bool, true, List, [], ◌∷◌, Option, Some, length, sym, ap, ◌∙◌, subst, inl, inr, arith}
use Rattle.std.proofs.lemmas.Bool.{cases_lt, false≢true}
use Rattle.std.proofs.lemmas.List.FromFn.{get_or-map-range_with_len}
use Rattle.phase_plan.specs.declared.Phase.{Phase}
use Rattle.net_parts.specs.Numbers.{Net}
use Rattle.net_parts.specs.Outline.{link_at, plan_at}
use Rattle.control_flow.specs.Greens.{Follows, IsLawful, row_at}
use Rattle.control_flow.specs.Signs.{sign_at}
use Rattle.control_flow.specs.declared.greens.Sign.{Sign}
use Rattle.control_flow.specs.declared.greens.Green.{Green}
use Rattle.control_flow.proofs.RowLaws.{lawful-cons, lawful-first, lawful-next, lawful-nil, lawful-tail}
use Rattle.net_simulator.specs.Flow.{Cumulative}
use Rattle.net_simulator.specs.Shown.{cumulative_of_lines}
use Rattle.net_simulator.specs.Sums.{end_of_run, link_totals, totals}
use Rattle.net_simulator.specs.Worlds.{line_in, signs_by}
use Rattle.net_simulator.specs.LinkGreens.{is_lit, loss_of}
use Rattle.net_simulator.proofs.AtNodes.{end-below, past-alike}
use Rattle.net_simulator.proofs.LightLaws.{AreAlike}
use Rattle.road_net.specs.Network.{IsNetwork}
use Rattle.road_net.specs.Through.{is_through}
use Rattle.world_records.specs.Told.{told_after, told_by, told_line}
use Rattle.world_records.proofs.ToldSigns.{row-late, row-told}
use Rattle.audit.specs.declared.sheet.Sheet.{Sheet}
use Rattle.audit.specs.LineReports.{cut_at}
use Rattle.audit.specs.Audits.{AreLawful, IsClean}
use Rattle.audit.proofs.ToldGreens as told
use Rattle.audit.proofs.ToldGreens.{told-alike}

-- the rows of a lawful line that are told are a lawful line
pub told-lawful : (plan : List Phase) (through : Bool) (end last : ℕ) (rows : List Green) → IsLawful plan rows → IsLawful plan (told_after through end last rows)
told-lawful plan through end last [] lawful = lawful
told-lawful plan through end last (row ∷ rows) lawful = elim (cases_lt (told_by through last row) end) [
  | inl before ↦
      subst (IsLawful plan) (sym (row-told through end last row rows before))
      (lawful-cons plan row (told_after through end row.to rows) (lawful-first plan row rows lawful) (first rows lawful) (told-lawful plan through end row.to rows (lawful-tail plan row rows lawful)))
  | inr after ↦ subst (IsLawful plan) (sym (row-late through end last row rows after)) (lawful-nil plan)
]
  where
    first : (rest : List Green) → IsLawful plan (row ∷ rest) → 0 < length (told_after through end row.to rest) → Follows plan row (row_at (told_after through end row.to rest) 0)
    first [] whole = λ some. absurd (omega (arith, some))
    first (next ∷ rest) whole = elim (cases_lt (told_by through row.to next) end) [
      | inl before ↦ rw (row-told through end row.to next rest before) (λ some. lawful-next plan row next rest whole)
      | inr after ↦ rw (row-late through end row.to next rest after) (λ some. absurd (omega (arith, some)))
    ]

-- signs that light a link alike
same-green : (lit : Sign → Bool) (s t : Sign) → told.AreAlike lit s t → lit s ≡ lit t
same-green lit s t (inl same) = ap lit same
same-green lit s t (inr off) = off.0 ∙ sym off.1

same-loss : (lit : Sign → Bool) (plan : List Phase) (s t : Sign) → told.AreAlike lit s t → lit s ≡ true → loss_of plan s ≡ loss_of plan t
same-loss lit plan s t (inl same) is = ap (loss_of plan) same
same-loss lit plan s t (inr off) is = absurd (false≢true (sym off.0 ∙ is))

-- a line of a sheet that is cut
pub cut-line : (net : Net) (end : ℕ) (s : Sheet) (node : ℕ) → node < length net.node_names → line_in (cut_at net end s).lines node ≡ told_line net s.lines end node
cut-line net end s node below = get_or-map-range_with_len (told_line net s.lines end) 0 (length net.node_names) node node [] below (omega arith)

module _ (net : Net) (network : IsNetwork net) (arriving : ℕ → ℕ → ℕ) (s : Sheet) where
  abbrev end : ℕ
  end = end_of_run net

  abbrev cut : List (List Green)
  cut = (cut_at net end s).lines

  module _ (lawful : AreLawful net s.lines) where
    -- what is told shows each link green as the sheet does
    cut-alike : AreAlike net (end_of_run net) (signs_by (line_in (cut_at net (end_of_run net) s).lines)) (signs_by (line_in s.lines))
    cut-alike =
        record {
          green = λ x l node early to. same-green (is_lit net l x) (signs_by (line_in cut) x node) (signs_by (line_in s.lines) x node) (shows x l node early to);
          loss = λ x l node early to is. same-loss (is_lit net l x) (plan_at net node) (signs_by (line_in cut) x node) (signs_by (line_in s.lines) x node) (shows x l node early to) is;
        }
      where
        shows : (x l node : ℕ) → x < end_of_run net → (link_at net l).to ≡ Some node → told.AreAlike (is_lit net l x) (signs_by (line_in cut) x node) (signs_by (line_in s.lines) x node)
        shows x l node early to =
            let below : node < length net.node_names = subst (λ (o : Option ℕ). IfSome o (λ k. k < length net.node_names)) to (end-below net network l) in
            subst (λ (rows : List Green). told.AreAlike (is_lit net l x) (sign_at rows x) (sign_at (line_in s.lines node) x)) (sym (cut-line net end s node below))
            (told-alike net l node to (plan_at net node) end x early (line_in s.lines node) (lawful node below))

    past-cut : cumulative_of_lines net arriving (cut_at net (end_of_run net) s).lines ≡ cumulative_of_lines net arriving s.lines
    past-cut = past-alike net arriving (signs_by (line_in cut)) (signs_by (line_in s.lines)) end cut-alike

  -- a clean sheet, cut at the end of the run
  pub cut-clean : IsClean net arriving s → IsClean net arriving (cut_at net end s)
  cut-clean clean = record {
    lawful = λ node below. subst (IsLawful (plan_at net node)) (sym (cut-line net end s node below))
        (told-lawful (plan_at net node) (is_through net node) end (row_at (line_in s.lines node) 0).from (line_in s.lines node) (clean.lawful node below));
    links = λ l below. clean.links l below ∙ ap (λ (p : ℕ → ℕ → Cumulative). link_totals net p end l) (sym (past-cut clean.lawful));
    all = clean.all ∙ ap (λ (p : ℕ → ℕ → Cumulative). totals net arriving p end) (sym (past-cut clean.lawful));
  }
