-- Links discharge one after another.
use Rattle.std.proofs.Common.{◌≡◌, ◌≢◌, ℕ, suc, ◌+◌, ◌-◌, ◌<◌, ◌≤◌, true, eqb, min, List, [], All, length, slice_index, slice_set, Option, Some, None, refl, sym, ap, ◌∙◌, inl, inr, arith}
use Rattle.std.specs.Option.{is_some}
use Rattle.std.proofs.lemmas.Bool.{cond_both, cases_lt, false≢true}
use Rattle.std.proofs.lemmas.Bool.Decides.{eqb_tells}
use Rattle.std.proofs.lemmas.List.{get_or-set_other, get_or-set_same, length-set}
use Rattle.net_parts.specs.Numbers.{Net}
use Rattle.net_parts.specs.Outline.{link_at, turns_at}
use Rattle.road_net.specs.Joins.{split_of}
use Rattle.road_net.proofs.Shares.{split-none}
use Rattle.net_simulator.proofs.Turning.{no_turn}
use Rattle.spillback_world.specs.StoreRows.{IsStorage}
use Rattle.spillback_world.specs.Filling.{fitting, room_of}
use Rattle.spillback_world.specs.Steps.{AreHeld, HasDischarged, HaveDischarged, HaveLeft, HaveLinks, discharge_of, link_goes, only_at, opening_by}
use Rattle.spillback_world.specs.Storage.{Opening, held_by, inward, next_goes}
use Rattle.spillback_world.proofs.Within.{at-last, before-last, first, given-more, held-given, last, past-last}

-- the node where there is one
pub some-of : (o : Option ℕ) → is_some o ≡ true → (node : ℕ) × (o ≡ Some node)
some-of None some = absurd (false≢true some)
some-of (Some node) some = (node, refl)

only-here : (l amount : ℕ) → only_at l amount l ≡ amount
only-here l amount = elim (eqb_tells l l) [ inl p ↦ rw p.0 refl | inr q ↦ absurd (q.1 refl) ]

only-else : (l amount k : ℕ) → k ≢ l → only_at l amount k ≡ 0
only-else l amount k other = elim (eqb_tells k l) [ inl p ↦ absurd (other p.1) | inr q ↦ rw q.0 refl ]

only-none : (l k : ℕ) → only_at l 0 k ≡ 0
only-none l k = cond_both (eqb k l) 0 0 (λ n. n ≡ 0) (λ e. refl) (λ e. refl)

module _ (net : Net) (store : List ℕ) (rates : List ℕ) (l : ℕ) (lv qs en hs : List ℕ) (links : HaveLinks net store lv qs en hs rates) (are : AreHeld net store qs en hs) where
  -- a link that ends at no node does nothing more
  pub discharge-out : (link_at net l).to ≡ None → turns_at net l ≡ [] → HasDischarged net store rates l lv qs en hs lv qs en hs
  discharge-out to plain =
      let none : (k : ℕ) → split_of (turns_at net l) (slice_index lv l) k ≡ 0 = λ k. split-none (turns_at net l) (slice_index lv l) k no_turn (λ i h. absurd (omega (arith, h, ap length plain))) in
      let still : (k : ℕ) → only_at l (inward (link_at net l).to (slice_index lv l)) k ≡ 0 = λ k. ap (λ o. only_at l (inward o (slice_index lv l)) k) to ∙ only-none l k in
      record {
        links = links;
        are = are;
        here = sym (ap (discharge_of net store hs qs lv rates l) to);
        others = λ k other. refl;
        waits = λ k. omega (arith, still k);
        enters = λ k. omega (arith, none k);
        holds = λ k. omega (arith, none k, still k);
      }

  -- another one discharges this amount
  module _ (node amount : ℕ) (inside : l < length net.link_names) (to : (link_at net l).to ≡ Some node) (is : amount ≡ link_goes net store hs qs rates l) (most : amount ≤ slice_index qs l)
      (fits : (k : ℕ) → split_of (turns_at net l) amount k ≤ room_of store hs k) where
    -- what is on it before its parts enter others
    abbrev less : List ℕ
    less = slice_set hs l (slice_index hs l - amount)

    less-is : (k : ℕ) → slice_index less k + only_at l amount k ≡ slice_index hs k
    less-is k = elim (eqb_tells k l) [
      | inl p ↦ rw p.1 (let there = are.there l inside in
          omega (arith, there, most, only-here l amount, get_or-set_same hs l (slice_index hs l - amount) 0 (omega (arith, inside, links.held))))
      | inr q ↦ omega (arith, only-else l amount k q.1, get_or-set_other hs l k (slice_index hs l - amount) 0 q.1)
    ]

    -- so there is capacity for what enters
    pub room-held : All IsStorage store → (k : ℕ) → k < length net.link_names → slice_index less k + split_of (turns_at net l) amount k ≤ 2000000000
    room-held bounds k below = omega (arith, less-is k, fits k, are.within k below, (bounds k 0 (omega (arith, below, links.store))).most)

    pub room-entering : All IsStorage store → (k : ℕ) → k < length net.link_names → slice_index en k + split_of (turns_at net l) amount k ≤ 2000000000
    room-entering bounds k below = omega (arith, fits k, are.there k below, are.within k below, (bounds k 0 (omega (arith, below, links.store))).most)

    pub discharge-in : (leaving queues entering held : List ℕ) → leaving ≡ slice_set lv l amount → queues ≡ slice_set qs l (slice_index qs l - amount) → length entering ≡ length net.link_names → length held ≡ length net.link_names
        → ((k : ℕ) → slice_index entering k ≡ slice_index en k + split_of (turns_at net l) amount k) → ((k : ℕ) → slice_index held k ≡ slice_index less k + split_of (turns_at net l) amount k)
        → HasDischarged net store rates l lv qs en hs leaving queues entering held
    discharge-in leaving queues entering held leaves waits long_entering long_held enters holds =
        let here : slice_index leaving l ≡ amount = ap (λ v. slice_index v l) leaves ∙ get_or-set_same lv l amount 0 (omega (arith, inside, links.leaving)) in
        let queue : (k : ℕ) → slice_index queues k + only_at l amount k ≡ slice_index qs k = λ k. elim (eqb_tells k l) [
          | inl p ↦ rw p.1 (omega (arith, most, only-here l amount, ap (λ v. slice_index v l) waits, get_or-set_same qs l (slice_index qs l - amount) 0 (omega (arith, inside, links.queues))))
          | inr q ↦ omega (arith, only-else l amount k q.1, ap (λ v. slice_index v k) waits, get_or-set_other qs l k (slice_index qs l - amount) 0 q.1)
        ] in
        let own : (k : ℕ) → only_at l (inward (link_at net l).to (slice_index leaving l)) k ≡ only_at l amount k = λ k. ap (λ o. only_at l (inward o (slice_index leaving l)) k) to ∙ ap (λ a. only_at l a k) here in
        let part : (k : ℕ) → split_of (turns_at net l) (slice_index leaving l) k ≡ split_of (turns_at net l) amount k = λ k. ap (λ a. split_of (turns_at net l) a k) here in
        record {
          links = record {
            store = links.store;
            leaving = ap length leaves ∙ length-set lv l amount ∙ links.leaving;
            queues = ap length waits ∙ length-set qs l (slice_index qs l - amount) ∙ links.queues;
            entering = long_entering;
            held = long_held;
            rates = links.rates;
          };
          are = record {
            there = λ k below. omega (arith, are.there k below, queue k, less-is k, enters k, holds k);
            within = λ k below. omega (arith, are.within k below, fits k, less-is k, holds k);
          };
          here = here ∙ is ∙ sym (ap (discharge_of net store hs qs lv rates l) to);
          others = λ k other. ap (λ v. slice_index v k) leaves ∙ get_or-set_other lv l k amount 0 other;
          waits = λ k. omega (arith, queue k, own k);
          enters = λ k. omega (arith, enters k, part k);
          holds = λ k. omega (arith, holds k, own k, part k, less-is k);
        }

inward-zero : (to : Option ℕ) (a : ℕ) → a ≡ 0 → inward to a ≡ 0
inward-zero None a none = refl
inward-zero (Some node) a none = none

module _ (net : Net) (store : List ℕ) (rates : List ℕ) (lv qs en hs : List ℕ) where
  abbrev o : Opening
  o = opening_by qs lv rates hs

  pub discharged-none : HaveLinks net store lv qs en hs rates → AreHeld net store qs en hs → HaveDischarged net store rates 0 lv qs en hs lv qs en hs
  discharged-none links are =
      let nothing : (k : ℕ) → inward (link_at net k).to (slice_index (first net (slice_index store) o 0) k) ≡ 0 = λ k. inward-zero (link_at net k).to _ (past-last net (slice_index store) o 0 k (omega arith)) in
      record {
        links = links;
        are = are;
        goes = λ k h. absurd (omega (arith, h));
        rest = λ k h. refl;
        waits = λ k. omega (arith, nothing k);
        enters = λ k. omega arith;
        holds = λ k. omega (arith, nothing k);
      }

  module _ (left : HaveLeft net qs lv) (n : ℕ) (inside : n < length net.link_names) (lv1 qs1 en1 hs1 : List ℕ) (before : HaveDischarged net store rates n lv qs en hs lv1 qs1 en1 hs1) where
    own-none : slice_index (first net (slice_index store) o n) n ≡ 0
    own-none = past-last net (slice_index store) o n n (omega arith)

    rooms : (k : ℕ) → room_of store hs1 k ≡ slice_index store k - held_by net o (first net (slice_index store) o n) k
    rooms k = omega (arith, before.holds k, held-given net (slice_index store) o n k)

    goes-next : (to : Option ℕ) → (link_at net n).to ≡ to → discharge_of net store hs1 qs1 lv1 rates n to ≡ next_goes net (slice_index store) o (first net (slice_index store) o n) n to
    goes-next None to = omega (arith, before.rest n (omega arith), left.out n inside to)
    goes-next (Some node) to =
        let queue : slice_index qs1 n ≡ slice_index qs n + slice_index lv n = omega (arith, before.waits n, inward-zero (link_at net n).to _ own-none, left.stays n node inside to) in
        ap (λ q. fitting (turns_at net n) (room_of store hs1) (min (slice_index rates n) q)) queue
        ∙ ap (λ r. fitting (turns_at net n) r (min (slice_index rates n) (slice_index qs n + slice_index lv n))) (λ i k. rooms k i)

    -- one link more
    pub discharged-more : (leaving queues entering held : List ℕ) → HasDischarged net store rates n lv1 qs1 en1 hs1 leaving queues entering held → HaveDischarged net store rates (suc n) lv qs en hs leaving queues entering held
    discharged-more leaving queues entering held step =
        let here : slice_index leaving n ≡ last net (slice_index store) o n = step.here ∙ goes-next (link_at net n).to refl in
        let added : (k : ℕ) → split_of (turns_at net n) (slice_index leaving n) k ≡ split_of (turns_at net n) (last net (slice_index store) o n) k = λ k. ap (λ a. split_of (turns_at net n) a k) here in
        let own : (k : ℕ) → inward (link_at net k).to (slice_index (first net (slice_index store) o n) k) + only_at n (inward (link_at net n).to (slice_index leaving n)) k ≡ inward (link_at net k).to (slice_index (first net (slice_index store) o (suc n)) k) = λ k. elim (eqb_tells k n) [
          | inl p ↦ rw p.1 (omega (arith, inward-zero (link_at net n).to _ own-none, only-here n (inward (link_at net n).to (slice_index leaving n)), ap (inward (link_at net n).to) (here ∙ sym (at-last net (slice_index store) o n))))
          | inr q ↦ omega (arith, only-else n (inward (link_at net n).to (slice_index leaving n)) k q.1, ap (inward (link_at net k).to) (kept k q.1))
        ] in
        record {
          links = step.links;
          are = step.are;
          goes = λ k h. elim (eqb_tells k n) [
            | inl p ↦ rw p.1 (here ∙ sym (at-last net (slice_index store) o n))
            | inr q ↦ let less : k < n = (let ne = q.1 in omega (arith, h)) in step.others k q.1 ∙ before.goes k less ∙ sym (before-last net (slice_index store) o n k less)
          ];
          rest = λ k h. step.others k (λ same. absurd (omega (arith, h, same))) ∙ before.rest k (omega (arith, h));
          waits = λ k. omega (arith, step.waits k, before.waits k, own k);
          enters = λ k. omega (arith, step.enters k, before.enters k, added k, given-more net (slice_index store) o n k);
          holds = λ k. omega (arith, step.holds k, before.holds k, added k, own k, given-more net (slice_index store) o n k);
        }
      where
        kept : (k : ℕ) → k ≢ n → slice_index (first net (slice_index store) o n) k ≡ slice_index (first net (slice_index store) o (suc n)) k
        kept k other = elim (cases_lt k n) [
          | inl less ↦ sym (before-last net (slice_index store) o n k less)
          | inr more ↦ past-last net (slice_index store) o n k more ∙ sym (past-last net (slice_index store) o (suc n) k (omega (arith, more, other)))
        ]
