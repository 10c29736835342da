-- How an actor goes on in its round.
use Rattle.std.proofs.Common.{◌≡◌, ℕ, length-append, List, [], ◌∷◌, ◌++◌, map, drop, length, refl, sym, ap, ◌∙◌, subst}
use Rattle.std.proofs.lemmas.List.{drop-drop, append_assoc, map-append}
use Rattle.board_model.specs.declared.boards.Heard.{Heard}
use Rattle.net_parts.specs.Numbers.{Net}
use Rattle.intersection_actor.specs.Acting.{Acting, reading, with_heard, without_records}
use Rattle.intersection_actor.specs.Rounds.{IsHearing, IsInRound, IsOf}
use Rattle.intersection_actor.specs.declared.records.Want.{Want}
use Rattle.intersection_actor.specs.declared.records.Want.TheVariants.{Read, Commit, Publish, Done}

-- what is left to read begins with the link that is wanted
left-is : (left : List ℕ) (link : ℕ) → reading left ≡ Read link → left ≡ link ∷ drop 1 left
left-is [] link e = let impossible : [] ≡ link ∷ drop 1 [] = cc in impossible
left-is (l ∷ ls) link e = let same : l ≡ link = cc in ap (λ x. x ∷ ls) same

hears-on : (net : Net) (a : Acting) (h : Heard) → a.want ≡ Read h.link → IsHearing net a → IsHearing net (with_heard h a)
hears-on net a h wants is = record {
  now = is.now;
  sensed = is.sensed;
  ahead = is.ahead;
  heard =
      ap (λ xs. xs ++ drop 1 a.left) (map-append (λ (x : Heard). x.link) a.heard (h ∷ []))
      ∙ append_assoc (map (λ (x : Heard). x.link) a.heard) (h.link ∷ []) (drop 1 a.left)
      ∙ ap (λ ls. map (λ (x : Heard). x.link) a.heard ++ ls) (sym (left-is a.left h.link (sym is.want ∙ wants)))
      ∙ is.heard;
  want = refl;
}

reading-in : (net : Net) (a : Acting) (left : List ℕ) → IsHearing net a → IsInRound net a (reading left)
reading-in net a [] is = is
reading-in net a (l ∷ ls) is = is

-- a reading keeps the actor of every network that it is of
pub heard-of : (net : Net) (a : Acting) (h : Heard) → a.want ≡ Read h.link → IsOf net a → IsOf net (with_heard h a)
heard-of net a h wants is =
    let hearing : IsHearing net a = subst (IsInRound net a) wants is.round in
    record {
      node = is.node;
      lawful = is.lawful;
      begins = is.begins;
      round = reading-in net (with_heard h a) (drop 1 a.left) (hears-on net a h wants hearing);
    }

-- what a reading makes of an actor, field by field
pub taken : (a : Acting) (reads : List ℕ) (h : Heard) (heard : List Heard) (want : Want) → a.left ≡ drop (length a.heard) reads → heard ≡ a.heard ++ h ∷ [] → want ≡ reading (drop (length heard) reads)
    → record a { want = want; left = drop (length heard) reads; heard = heard } ≡ with_heard h a
taken a reads h heard want left same wants =
    let on : drop (length heard) reads ≡ drop 1 a.left =
    ap (λ (hs : List Heard). drop (length hs) reads) same ∙ ap (λ n. drop n reads) (length-append a.heard (h ∷ [])) ∙ sym (drop-drop 1 (length a.heard) reads) ∙ ap (drop 1) (sym left) in
    let next : want ≡ reading (drop 1 a.left) = wants ∙ ap reading on in
    λ i. record a { want = next i; left = on i; heard = same i }

in-round-without : (net : Net) (a : Acting) (want : Want) → IsInRound net a want → IsInRound net (without_records a) want
in-round-without net a (Read link) is = record { now = is.now; sensed = is.sensed; ahead = is.ahead; heard = is.heard; want = is.want }
in-round-without net a Commit is = record { now = is.now; sensed = is.sensed; ahead = is.ahead; heard = is.heard; want = is.want }
in-round-without net a (Publish link) is = record { link = is.link; now = is.now; platoons = is.platoons; plan = is.plan; head = is.head; served = is.served }
in-round-without net a Done is = is

-- an actor whose records are moved is still of every network that it was of
pub of-without : (net : Net) (a : Acting) → IsOf net a → IsOf net (without_records a)
of-without net a is = record { node = is.node; lawful = is.lawful; begins = is.begins; round = in-round-without net a a.want is.round }
