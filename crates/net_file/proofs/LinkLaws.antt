-- The table of a link, in which seven keys may be absent.
use Rattle.std.proofs.Common.{◌≡◌, ℕ, ◌<◌, ◌≤◌, ◌^◌, codes, pos, List, Option, Some, None, IfSome, option_map, inl, inr, refl, sym, subst, arith}
use Rattle.toml.specs.Data.{Data, Items, no_items, Members, no_members, integer, string, array, table, depth, items_depth}
use Rattle.net_parts.specs.declared.drafts.DraftLink.{DraftLink}
use Rattle.net_parts.specs.declared.drafts.DraftYield.{DraftYield}
use Rattle.net_parts.specs.declared.roads.Walk.{Walk}
use Rattle.net_tables.specs.Table.{LinkForm, only, number_at, optional_number_at, text_at, optional_text_at, weight_at, array_at, optional_list_at, yields_at, walk_at, yield_of, list_of, field_of, link_keys, link_keys_in, link_form, link_own, link_of, turn_of}
use Rattle.net_file.specs.Members.{with_member, with_optional}
use Rattle.net_file.specs.Written.{IsDataOf, IsFilledWith, AreItemsOf, HasNumber, HasItems, HasItemsIfAny, HasYields, HasWalk, SaysLink, Always, text_in, with_yields, with_walk, items_if}
use Rattle.net_file.proofs.PhaseLaws.{field-fits}

-- the links to which a link gives way, put key by key
pub yields-put : {m0 m1 m2 : Members} (yields : Option DraftYield) (given : DraftYield) → yields ≡ Some given → HasItems text_in Always 0 (codes "yields") given.links m0 m1 → HasNumber (codes "yield_sat") given.sat m1 m2 → HasYields yields m0 m2
yields-put yields given is links sat = rw is (record { items = links.items; are = links.are; depth = links.are.depth; is = rw (sat.is, links.is) refl; fits = sat.fits })

-- and none
pub yields-none : (yields : Option DraftYield) (m : Members) → yields ≡ None → HasYields yields m m
yields-none yields m is = rw is (record { items = no_items; are = tt; depth = omega arith; is = refl; fits = tt })

-- a yield and a walk, as they are read
abbrev raw : Items → Option DraftYield → Option (List Data × ℕ)
raw ds yields = option_map (λ given. (list_of ds, field_of (pos given.sat))) yields

abbrev given_read : Option DraftYield → Option DraftYield
given_read None = None
given_read (Some given) = Some (record { links = given.links; sat = field_of (pos given.sat) })

abbrev walk_read : Option Walk → Option Walk
walk_read None = None
walk_read (Some walk) = Some (record { seconds = field_of (pos walk.seconds); cross = field_of (pos walk.cross) })

yield-read : (ds : Items) (yields : Option DraftYield) → IfSome yields (λ given. AreItemsOf text_in Always 0 ds given.links) → yield_of (raw ds yields) ≡ Some (given_read yields)
yield-read ds None are = refl
yield-read ds (Some given) are = rw (are.read 3 (λ k d h. tt)) refl

given-fits : (yields : Option DraftYield) → IfSome yields (λ given. given.sat < 2 ^ 32) → given_read yields ≡ yields
given-fits None fits = refl
given-fits (Some given) fits = λ i. Some (record { links = given.links; sat = field-fits given.sat fits i })

walk-fits : (walk : Option Walk) → IfSome walk (λ w. (w.seconds < 2 ^ 32) × (w.cross < 2 ^ 32)) → walk_read walk ≡ walk
walk-fits None fits = refl
walk-fits (Some walk) fits = λ i. Some (record { seconds = field-fits walk.seconds fits.0 i; cross = field-fits walk.cross fits.1 i })

module _ (name : List ℕ) (travel sat weight : ℕ) (ds : Items) where
  -- the members of a link, as they are put together
  abbrev pub link_members : Option (List ℕ) → Option (List ℕ) → Option DraftYield → Option Walk → Option Items → Members
  link_members from to yields walk turns =
      with_optional (codes "turn") (option_map array turns) (with_walk walk (with_yields ds yields (with_member (codes "weight") (integer (pos weight)) (with_member (codes "sat") (integer (pos sat)) (with_member (codes "travel") (integer (pos travel))
      (with_optional (codes "to") (option_map string to) (with_optional (codes "from") (option_map string from) (with_member (codes "name") (string name) no_members))))))))

  abbrev form : Option (List ℕ) → Option (List ℕ) → Option DraftYield → Option Walk → Option Items → LinkForm
  form from to yields walk turns = record { name = name; from = from; to = to; travel = field_of (pos travel); sat = field_of (pos sat); weight = field_of (pos weight); yields = raw ds yields; walk = walk_read walk; turns = list_of (items_if turns) }

  -- how they are read as version 3, whichever are absent
  form-third : (from to : Option (List ℕ)) (yields : Option DraftYield) (walk : Option Walk) (turns : Option Items) → link_form (Some 3) (table (link_members from to yields walk turns)) ≡ Some (form from to yields walk turns)
  unfolding link_form link_keys link_keys_in only number_at optional_number_at text_at optional_text_at weight_at array_at optional_list_at yields_at walk_at
  form-third None None None None None = refl
  form-third None None None None (Some ts) = refl
  form-third None None None (Some walk) None = refl
  form-third None None None (Some walk) (Some ts) = refl
  form-third None None (Some given) None None = refl
  form-third None None (Some given) None (Some ts) = refl
  form-third None None (Some given) (Some walk) None = refl
  form-third None None (Some given) (Some walk) (Some ts) = refl
  form-third None (Some to) None None None = refl
  form-third None (Some to) None None (Some ts) = refl
  form-third None (Some to) None (Some walk) None = refl
  form-third None (Some to) None (Some walk) (Some ts) = refl
  form-third None (Some to) (Some given) None None = refl
  form-third None (Some to) (Some given) None (Some ts) = refl
  form-third None (Some to) (Some given) (Some walk) None = refl
  form-third None (Some to) (Some given) (Some walk) (Some ts) = refl
  form-third (Some from) None None None None = refl
  form-third (Some from) None None None (Some ts) = refl
  form-third (Some from) None None (Some walk) None = refl
  form-third (Some from) None None (Some walk) (Some ts) = refl
  form-third (Some from) None (Some given) None None = refl
  form-third (Some from) None (Some given) None (Some ts) = refl
  form-third (Some from) None (Some given) (Some walk) None = refl
  form-third (Some from) None (Some given) (Some walk) (Some ts) = refl
  form-third (Some from) (Some to) None None None = refl
  form-third (Some from) (Some to) None None (Some ts) = refl
  form-third (Some from) (Some to) None (Some walk) None = refl
  form-third (Some from) (Some to) None (Some walk) (Some ts) = refl
  form-third (Some from) (Some to) (Some given) None None = refl
  form-third (Some from) (Some to) (Some given) None (Some ts) = refl
  form-third (Some from) (Some to) (Some given) (Some walk) None = refl
  form-third (Some from) (Some to) (Some given) (Some walk) (Some ts) = refl

  -- and as version 2, without a yield and a walk
  form-second : (from to : Option (List ℕ)) (turns : Option Items) → link_form (Some 2) (table (link_members from to None None turns)) ≡ Some (form from to None None turns)
  unfolding link_form link_keys link_keys_in only number_at optional_number_at text_at optional_text_at weight_at array_at optional_list_at yields_at walk_at
  form-second None None None = refl
  form-second None None (Some ts) = refl
  form-second None (Some to) None = refl
  form-second None (Some to) (Some ts) = refl
  form-second (Some from) None None = refl
  form-second (Some from) None (Some ts) = refl
  form-second (Some from) (Some to) None = refl
  form-second (Some from) (Some to) (Some ts) = refl

  members-depth : (from to : Option (List ℕ)) (yields : Option DraftYield) (walk : Option Walk) (turns : Option Items) → items_depth ds ≤ 0 → items_depth (items_if turns) ≤ 1 → depth (table (link_members from to yields walk turns)) ≤ 3
  members-depth None None None None None a b = omega arith
  members-depth None None None None (Some ts) a b = omega arith
  members-depth None None None (Some walk) None a b = omega arith
  members-depth None None None (Some walk) (Some ts) a b = omega arith
  members-depth None None (Some given) None None a b = omega arith
  members-depth None None (Some given) None (Some ts) a b = omega arith
  members-depth None None (Some given) (Some walk) None a b = omega arith
  members-depth None None (Some given) (Some walk) (Some ts) a b = omega arith
  members-depth None (Some to) None None None a b = omega arith
  members-depth None (Some to) None None (Some ts) a b = omega arith
  members-depth None (Some to) None (Some walk) None a b = omega arith
  members-depth None (Some to) None (Some walk) (Some ts) a b = omega arith
  members-depth None (Some to) (Some given) None None a b = omega arith
  members-depth None (Some to) (Some given) None (Some ts) a b = omega arith
  members-depth None (Some to) (Some given) (Some walk) None a b = omega arith
  members-depth None (Some to) (Some given) (Some walk) (Some ts) a b = omega arith
  members-depth (Some from) None None None None a b = omega arith
  members-depth (Some from) None None None (Some ts) a b = omega arith
  members-depth (Some from) None None (Some walk) None a b = omega arith
  members-depth (Some from) None None (Some walk) (Some ts) a b = omega arith
  members-depth (Some from) None (Some given) None None a b = omega arith
  members-depth (Some from) None (Some given) None (Some ts) a b = omega arith
  members-depth (Some from) None (Some given) (Some walk) None a b = omega arith
  members-depth (Some from) None (Some given) (Some walk) (Some ts) a b = omega arith
  members-depth (Some from) (Some to) None None None a b = omega arith
  members-depth (Some from) (Some to) None None (Some ts) a b = omega arith
  members-depth (Some from) (Some to) None (Some walk) None a b = omega arith
  members-depth (Some from) (Some to) None (Some walk) (Some ts) a b = omega arith
  members-depth (Some from) (Some to) (Some given) None None a b = omega arith
  members-depth (Some from) (Some to) (Some given) None (Some ts) a b = omega arith
  members-depth (Some from) (Some to) (Some given) (Some walk) None a b = omega arith
  members-depth (Some from) (Some to) (Some given) (Some walk) (Some ts) a b = omega arith

pub link-filled : (l : DraftLink) {m0 m1 m2 m3 m4 m5 m6 m7 m8 m9 : Members} → m1 ≡ with_member (codes "name") (string l.name) m0 → m2 ≡ with_optional (codes "from") (option_map string l.from) m1 → m3 ≡ with_optional (codes "to") (option_map string l.to) m2
    → HasNumber (codes "travel") l.travel m3 m4 → HasNumber (codes "sat") l.sat m4 m5 → HasNumber (codes "weight") l.weight m5 m6 → HasYields l.yields m6 m7 → HasWalk l.walk m7 m8
    → HasItemsIfAny (λ _. turn_of) Always 1 (codes "turn") l.turns m8 m9 → IsFilledWith (λ version. link_of (Some version)) SaysLink 3 l m0 m9
unfolding link_of link_own
link-filled l {m9 = m9} name from to travel sat weight yields walk turns empty =
    let members = link_members l.name l.travel l.sat l.weight yields.items l.from l.to in
    let is : m9 ≡ members l.yields l.walk turns.items = rw (turns.is, walk.is, yields.is, weight.is, sat.is, travel.is, to, from, name, empty) refl in
    let given = yield-read yields.items l.yields yields.are in
    subst (λ ms. IsDataOf (λ version. link_of (Some version)) SaysLink 3 (table ms) l) (sym is) (record {
      read = λ version says. elim says [
        | inl third ↦ rw (third, form-third l.name l.travel l.sat l.weight yields.items l.from l.to l.yields l.walk turns.items, given, turns.are.read 3 (λ k d h. tt))
            (λ i. Some (record { name = l.name; from = l.from; to = l.to; travel = field-fits l.travel travel.fits i; sat = field-fits l.sat sat.fits i; weight = field-fits l.weight weight.fits i; yields = given-fits l.yields yields.fits i; walk = walk-fits l.walk walk.fits i; turns = l.turns }))
        | inr second ↦ rw (second.0, second.1, second.2, form-second l.name l.travel l.sat l.weight yields.items l.from l.to turns.items, turns.are.read 2 (λ k d h. tt))
            (λ i. Some (record { name = l.name; from = l.from; to = l.to; travel = field-fits l.travel travel.fits i; sat = field-fits l.sat sat.fits i; weight = field-fits l.weight weight.fits i; yields = None; walk = None; turns = l.turns }))
      ];
      depth = members-depth l.name l.travel l.sat l.weight yields.items l.from l.to l.yields l.walk turns.items yields.depth turns.are.depth;
    })
