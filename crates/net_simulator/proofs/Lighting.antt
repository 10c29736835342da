-- What is kept of lights, as the nodes are looked at one after another.
use Rattle.std.proofs.Common.{◌≡◌, ◌≢◌, ℕ, ◌+◌, ◌<◌, ◌≤◌, List, All, None, Some, length, slice_index, slice_index_or, sym, ap, subst, ◌∙◌, inl, inr, arith}
use Rattle.std.specs.Prelude.{Contains}
use Rattle.std.proofs.Math.ListN.{set}
use Rattle.std.proofs.lemmas.List.{get_or-set_other, get_or-set_same, get_or_default}
use Rattle.std.proofs.lemmas.Bool.Decides.{eqb_tells}
use Rattle.std.proofs.lemmas.Option.{same_Some}
use Rattle.std.proofs.lemmas.List.Kept.{AllPairs-from_increasing}
use Rattle.control_flow.specs.declared.greens.Sign.{Sign}
use Rattle.control_flow.specs.declared.greens.Sign.TheVariants.{Dark}
use Rattle.net_parts.specs.Numbers.{Net}
use Rattle.net_parts.specs.Outline.{link_at}
use Rattle.std.specs.List.Sorted.{IsStrictlyIncreasing}
use Rattle.net_simulator.specs.LinkGreens.{lit_on}
use Rattle.net_simulator.specs.LinkSeconds.{AreLit}

-- the links of a list below this place have been looked at
pub record AreLitTo (net : Net) (x : ℕ) (sign : Sign) (links since0 : List ℕ) (n : ℕ) (since : List ℕ) : Type 0 where
  pub here : (i : ℕ) → i < n → slice_index since (slice_index links i) ≡ lit_on net (slice_index links i) x sign (slice_index since0 (slice_index links i))
  pub rest : (k : ℕ) → ((i : ℕ) → i < n → slice_index links i ≢ k) → slice_index since k ≡ slice_index since0 k

module _ (net : Net) (x node : ℕ) (sign : Sign) (links since0 : List ℕ) (rising : IsStrictlyIncreasing links) where
  differ : (i n : ℕ) → i < n → n < length links → slice_index links i ≢ slice_index links n
  differ i n less inside same = (let up = AllPairs-from_increasing links rising i n 0 less inside in omega (arith, up, same))

  -- one link more
  pub lit-more : (n v : ℕ) (since : List ℕ) → AreLitTo net x sign links since0 n since → n < length links → slice_index links n < length since → v ≡ lit_on net (slice_index links n) x sign (slice_index since (slice_index links n))
      → AreLitTo net x sign links since0 (n + 1) (set since (slice_index links n) v)
  lit-more n v since before inside there is =
      let e = slice_index links n in
      let was : slice_index since e ≡ slice_index since0 e = before.rest e (λ i less. differ i n less inside) in
      record {
        here = λ i h. elim (eqb_tells i n) [
          | inl p ↦ rw p.1 (get_or-set_same since e v 0 there ∙ is ∙ ap (lit_on net e x sign) was)
          | inr q ↦
              let less : i < n = (let ne = q.1 in omega (arith, h)) in
              get_or-set_other since e (slice_index links i) v 0 (differ i n less inside) ∙ before.here i less
        ];
        rest = λ k none. get_or-set_other since e k v 0 (λ same. none n (omega arith) (sym same)) ∙ before.rest k (λ i less. none i (omega (arith, less)));
      }

  -- one link more, which stays as it is
  pub lit-kept : (n : ℕ) (since : List ℕ) → AreLitTo net x sign links since0 n since → n < length links → slice_index since0 (slice_index links n) ≡ lit_on net (slice_index links n) x sign (slice_index since0 (slice_index links n))
      → AreLitTo net x sign links since0 (n + 1) since
  lit-kept n since before inside still = record {
    here = λ i h. elim (eqb_tells i n) [
      | inl p ↦ rw p.1 (before.rest (slice_index links n) (λ i less. differ i n less inside) ∙ still)
      | inr q ↦ let ne = q.1 in before.here i (omega (arith, h))
    ];
    rest = λ k none. before.rest k (λ i less. none i (omega (arith, less)));
  }

  module _ (since : List ℕ) (all : AreLitTo net x sign links since0 (length links) since) where
    pub lit-here : (l : ℕ) → Contains links l → slice_index since l ≡ lit_on net l x sign (slice_index since0 l)
    lit-here l has =
        let is : slice_index links has.0 ≡ l = get_or_default links has.0 0 l has.1 ∙ has.2 in
        subst (λ k. slice_index since k ≡ lit_on net k x sign (slice_index since0 k)) is (all.here has.0 has.1)

    pub lit-others : All (λ k. (k < length net.links) × ((link_at net k).to ≡ Some node)) links → (l : ℕ) → (link_at net l).to ≢ Some node → slice_index since l ≡ slice_index since0 l
    lit-others have l other = all.rest l (λ i h same. other (ap (λ k. (link_at net k).to) (sym same) ∙ (have i 0 h).1))

-- The nodes below this one have been looked at, `told` is what the nodes show.
pub record AreLookedAt (net : Net) (x : ℕ) (told : ℕ → Sign) (signs0 : List Sign) (since0 : List ℕ) (node : ℕ) (gs : List Sign) (fs : List ℕ) : Type 0 where
  pub signs : (n : ℕ) → n < node → slice_index_or gs n Dark ≡ told n
  pub others : (n : ℕ) → node ≤ n → slice_index_or gs n Dark ≡ slice_index_or signs0 n Dark
  pub here : (l n : ℕ) → l < length net.link_names → (link_at net l).to ≡ Some n → n < node → slice_index fs l ≡ lit_on net l x (told n) (slice_index since0 l)
  pub rest : (l n : ℕ) → l < length net.link_names → (link_at net l).to ≡ Some n → node ≤ n → slice_index fs l ≡ slice_index since0 l
  pub none : (l : ℕ) → l < length net.link_names → (link_at net l).to ≡ None → slice_index fs l ≡ slice_index since0 l

module _ (net : Net) (x : ℕ) (told : ℕ → Sign) (signs0 : List Sign) (since0 : List ℕ) (node : ℕ) (signs : List Sign) (since : List ℕ) (before : AreLookedAt net x told signs0 since0 node signs since) where
  -- a link without a walk, at a node whose sign is as it was
  pub still-link : AreLit net x signs0 since0 → slice_index_or signs node Dark ≡ told node → (l : ℕ) → l < length net.link_names → (link_at net l).to ≡ Some node → (link_at net l).walk ≡ None
      → slice_index since l ≡ lit_on net l x (told node) (slice_index since l)
  still-link lit same l inside to none =
      let was = before.rest l node inside to (omega arith) in
      let sign : slice_index_or signs0 node Dark ≡ told node = sym (before.others node (omega arith)) ∙ same in
      was ∙ lit l node inside to none ∙ ap (λ (s : Sign). lit_on net l x s (slice_index since0 l)) sign ∙ ap (lit_on net l x (told node)) (sym was)

  -- a node whose sign is as it was, where no link has a walk
  pub same-node : AreLit net x signs0 since0 → ((l : ℕ) → (link_at net l).walk ≡ None) → slice_index_or signs node Dark ≡ told node → AreLookedAt net x told signs0 since0 (node + 1) signs since
  same-node lit plain same = record {
    signs = λ n h. elim (eqb_tells n node) [
      | inl p ↦ rw p.1 same
      | inr q ↦ let ne = q.1 in before.signs n (omega (arith, h))
    ];
    others = λ n h. before.others n (omega (arith, h));
    here = λ l n inside to h. elim (eqb_tells n node) [
      | inl p ↦
          let sign : slice_index_or signs0 n Dark ≡ told n = sym (before.others n (let e = p.1 in omega arith)) ∙ ap (λ k. slice_index_or signs k Dark) p.1 ∙ same ∙ ap told (sym p.1) in
          before.rest l n inside to (let e = p.1 in omega arith) ∙ lit l n inside to (plain l) ∙ ap (λ (s : Sign). lit_on net l x s (slice_index since0 l)) sign
      | inr q ↦ let ne = q.1 in before.here l n inside to (omega (arith, h))
    ];
    rest = λ l n inside to h. before.rest l n inside to (omega (arith, h));
    none = before.none;
  }

  -- a node whose sign has changed
  pub lit-node : node < length signs → (next : List ℕ)
      → ((l : ℕ) → l < length net.link_names → (link_at net l).to ≡ Some node → slice_index next l ≡ lit_on net l x (told node) (slice_index since l))
      → ((l : ℕ) → l < length net.link_names → (link_at net l).to ≢ Some node → slice_index next l ≡ slice_index since l)
      → AreLookedAt net x told signs0 since0 (node + 1) (set signs node (told node)) next
  lit-node inside next lit rest = record {
    signs = λ n h. elim (eqb_tells n node) [
      | inl p ↦ rw p.1 (get_or-set_same signs node (told node) Dark inside)
      | inr q ↦ let ne = q.1 in get_or-set_other signs node n (told node) Dark ne ∙ before.signs n (omega (arith, h))
    ];
    others = λ n h. get_or-set_other signs node n (told node) Dark (λ e. omega (arith, e, h)) ∙ before.others n (omega (arith, h));
    here = λ l n below to h. elim (eqb_tells n node) [
      | inl p ↦
          let at : (link_at net l).to ≡ Some node = to ∙ ap Some p.1 in
          lit l below at ∙ ap (lit_on net l x (told node)) (before.rest l n below to (let e = p.1 in omega arith)) ∙ ap (λ k. lit_on net l x (told k) (slice_index since0 l)) (sym p.1)
      | inr q ↦
          let ne = q.1 in
          rest l below (λ same. ne (same_Some n node (sym to ∙ same))) ∙ before.here l n below to (omega (arith, h))
    ];
    rest = λ l n below to h. rest l below (λ same. (let e = same_Some n node (sym to ∙ same) in omega (arith, e, h))) ∙ before.rest l n below to (omega (arith, h));
    none = λ l below to. rest l below (λ same. let gone : ⊥ = cc in absurd gone) ∙ before.none l below to;
  }
