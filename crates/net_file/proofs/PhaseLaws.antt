-- The table of a phase.
use Rattle.std.proofs.Common.{◌≡◌, ℕ, ◌<◌, ◌≤◌, ◌^◌, codes, pos, [], Option, Some, None, option_map, inl, inr, refl, sym, subst, arith, lt-ltb}
use Rattle.std.proofs.lemmas.Option.{same_Some}
use Rattle.foundation.specs.Options.{each}
use Rattle.toml.specs.Data.{Items, Members, no_members, member, integer, boolean, array, table, as_str, depth, items_depth}
use Rattle.phase_plan.specs.Phases.{HasU32Times}
use Rattle.phase_plan.specs.declared.Phase.{Phase}
use Rattle.net_parts.specs.declared.drafts.DraftPhase.{DraftPhase}
use Rattle.net_tables.specs.Table.{field_of, only, number_at, flag_at, list_at, list_of, optional_list_at, phase_keys, phase_keys_in, phase_form, phase_of}
use Rattle.net_file.specs.Members.{with_member, with_optional}
use Rattle.net_file.specs.Written.{IsDataOf, IsFilledWith, AreItemsOf, HasNumber, HasItems, HasItemsIfAny, SaysPhase, Always, text_in, items_if}

-- a u32 is read as itself
pub field-fits : (n : ℕ) → n < 2 ^ 32 → field_of (pos n) ≡ n
field-fits n h = rw (lt-ltb n (2 ^ 32) h) refl

-- the times of a phase, as they are read
abbrev phase_read : Phase → Phase
phase_read p = record { least = field_of (pos p.least); greatest = field_of (pos p.greatest); yellow = field_of (pos p.yellow); clear = field_of (pos p.clear); loss = field_of (pos p.loss); wait = field_of (pos p.wait); skip = p.skip }

-- they are read as themselves
same-phase : (p : Phase) → HasU32Times p → phase_read p ≡ p
same-phase p fits i = record {
  least = field-fits p.least fits.least i;
  greatest = field-fits p.greatest fits.greatest i;
  yellow = field-fits p.yellow fits.yellow i;
  clear = field-fits p.clear fits.clear i;
  loss = field-fits p.loss fits.loss i;
  wait = field-fits p.wait fits.wait i;
  skip = p.skip;
}

-- the members of a phase, in the order of their keys
abbrev pub phase_members : Phase → Items → Option Items → Members
phase_members p ds also =
    with_optional (codes "also") (option_map array also) (member (codes "clear") (integer (pos p.clear)) (member (codes "greatest") (integer (pos p.greatest)) (member (codes "least") (integer (pos p.least))
    (member (codes "links") (array ds) (member (codes "loss") (integer (pos p.loss)) (member (codes "skip") (boolean p.skip)
    (member (codes "wait") (integer (pos p.wait)) (member (codes "yellow") (integer (pos p.yellow)) no_members))))))))

phase-depth : (p : Phase) (ds : Items) (also : Option Items) → items_depth ds ≤ 0 → items_depth (items_if also) ≤ 0 → depth (table (phase_members p ds also)) ≤ 2
phase-depth p ds None a b = omega arith
phase-depth p ds (Some es) a b = omega arith

module _ (p : DraftPhase) (ds : Items) (fits : HasU32Times p.phase) (links : each as_str (list_of ds) ≡ Some p.links) where
  -- as version 3, whether it names further links or not
  phase-third : (also : Option Items) → each as_str (list_of (items_if also)) ≡ Some p.also → phase_of (Some 3) (table (phase_members p.phase ds also)) ≡ Some p
  unfolding phase_of phase_form phase_keys phase_keys_in only number_at flag_at list_at optional_list_at
  phase-third None further = rw links (λ i. Some (record { phase = same-phase p.phase fits i; links = p.links; also = same_Some _ _ further i }))
  phase-third (Some es) further = rw (links, further) (λ i. Some (record { phase = same-phase p.phase fits i; links = p.links; also = p.also }))

  -- as version 2, where it names none
  phase-second : p.also ≡ [] → phase_of (Some 2) (table (phase_members p.phase ds None)) ≡ Some p
  unfolding phase_of phase_form phase_keys phase_keys_in only number_at flag_at list_at optional_list_at
  phase-second none = rw links (λ i. Some (record { phase = same-phase p.phase fits i; links = p.links; also = sym none i }))

pub phase-read : (p : DraftPhase) (ds : Items) (also : Option Items) → HasU32Times p.phase → AreItemsOf text_in Always 0 ds p.links → AreItemsOf text_in Always 0 (items_if also) p.also → (p.also ≡ [] → also ≡ None)
    → IsDataOf (λ version. phase_of (Some version)) SaysPhase 2 (table (phase_members p.phase ds also)) p
phase-read p ds also fits are further none = record {
  read = λ version says. elim says [
    | inl third ↦ rw third (phase-third p ds fits (are.read 3 (λ k d h. tt)) also (further.read 3 (λ k d h. tt)))
    | inr second ↦ rw (second.0, none second.1) (phase-second p ds fits (are.read 2 (λ k d h. tt)) second.1)
  ];
  depth = phase-depth p.phase ds also are.depth further.depth;
}

-- a phase that was put together, key by key
pub phase-filled : (p : DraftPhase) {m0 m1 m2 m3 m4 m5 m6 m7 m8 m9 : Members} → HasNumber (codes "least") p.phase.least m0 m1 → HasNumber (codes "greatest") p.phase.greatest m1 m2 → HasNumber (codes "yellow") p.phase.yellow m2 m3
    → HasNumber (codes "clear") p.phase.clear m3 m4 → HasNumber (codes "loss") p.phase.loss m4 m5 → HasNumber (codes "wait") p.phase.wait m5 m6 → m7 ≡ with_member (codes "skip") (boolean p.phase.skip) m6
    → HasItems text_in Always 0 (codes "links") p.links m7 m8 → HasItemsIfAny text_in Always 0 (codes "also") p.also m8 m9 → IsFilledWith (λ version. phase_of (Some version)) SaysPhase 2 p m0 m9
phase-filled p {m9 = m9} least greatest yellow clear loss wait skip links also empty =
    let is : m9 ≡ phase_members p.phase links.items also.items = rw (also.is, links.is, skip, wait.is, loss.is, clear.is, yellow.is, greatest.is, least.is, empty) refl in
    let fits : HasU32Times p.phase = record { least = least.fits; greatest = greatest.fits; yellow = yellow.fits; clear = clear.fits; loss = loss.fits; wait = wait.fits } in
    subst (λ ms. IsDataOf (λ version. phase_of (Some version)) SaysPhase 2 (table ms) p) (sym is) (phase-read p links.items also.items fits links.are also.are also.none)
