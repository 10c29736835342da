-- How a node goes on in its round.
use Rattle.std.proofs.Common.{◌≡◌, ℕ, zero, suc, ◌+◌, ◌-◌, ◌*◌, ◌<◌, ◌≤◌, cond, true, false, List, [], ◌∷◌, ◌++◌, Option, Some, None, length, map, is_some, All, drop, get_or, find, le-leb, refl, sym, ap, subst, ◌∙◌, inl, inr, arith}
use Rattle.std.specs.Prelude.{nat_le}
use Rattle.std.specs.List.Sorted.{IsStrictlyIncreasing}
use Rattle.std.proofs.lemmas.Bool.{cases_lt, lt-leb}
use Rattle.std.proofs.lemmas.List.{drop-drop, length_push}
use Rattle.std.proofs.lemmas.List.Elements.{All-filter, All-get_or, filter_passes}
use Rattle.std.proofs.lemmas.List.Kept.{AllPairs-from_increasing, IsStrictlyIncreasing-filter}
use Rattle.arrivals.specs.Amounts.{Amounts, arriving_of}
use Rattle.board_model.specs.declared.boards.Heard.{Heard}
use Rattle.control_flow.specs.Greens.{end_of}
use Rattle.control_flow.specs.declared.greens.Green.{Green}
use Rattle.intersection_actor.specs.Acting.{Acting, reading, resting, telling, tells_from, wanting, with_heard}
use Rattle.intersection_actor.specs.Commits.{Commitment, IsCommit, phases_of, record_of}
use Rattle.intersection_actor.specs.Rounds.{IsCommitted, IsOf, KeepsPast}
use Rattle.intersection_actor.specs.declared.records.PlanRecord.{PlanRecord}
use Rattle.intersection_actor.specs.declared.records.Want.{Want}
use Rattle.intersection_actor.specs.declared.records.Want.TheVariants.{Publish, Done}
use Rattle.net_parts.specs.Numbers.{Net}
use Rattle.net_parts.specs.Outline.{link_at}
use Rattle.road_net.specs.Network.{IsNetwork, exit_links, heard_links, told_links}
use Rattle.road_net.specs.declared.senses.Sensed.{Sensed}
use Rattle.runs.specs.Runs.{Commits, line_before, sensed_in}
use Rattle.runs.proofs.Agree.{SameBefore, commit-moved, commits-moved, lines-same, sensed-same}
use Rattle.runs.proofs.Heard.{have-at, rise-at}
use Rattle.runs.proofs.PlanLaws.{used-links}
use Rattle.runs.specs.Resting.{Rests}
use Rattle.net_core.specs.Acts.{HasTold}
use Rattle.net_core.specs.States.{Listens, Plays, Tells, TellsOf, telling_first}
use Rattle.net_core.proofs.Put.{put, put-here, put-round}

-- the first of some links from a number on
find-from : (v : ℕ) (xs : List ℕ) (j : ℕ) → ((i : ℕ) → i < j → i < length xs → get_or xs i 0 < v) → ((i : ℕ) → j ≤ i → i < length xs → v ≤ get_or xs i 0) → telling (find (λ k. nat_le v k) xs) ≡ telling_first (drop j xs)
find-from v [] zero low high = refl
find-from v [] (suc j) low high = refl
find-from v (x ∷ xs) zero low high = ap (λ b. telling (cond b (Some x) (find (λ k. nat_le v k) xs))) (le-leb v x (high 0 (omega arith) (omega arith)))
find-from v (x ∷ xs) (suc j) low high = ap (λ b. telling (cond b (Some x) (find (λ k. nat_le v k) xs))) (lt-leb v x (low 0 (omega arith) (omega arith))) ∙ find-from v xs j (λ i less inside. low (suc i) (omega arith) (omega arith)) (λ i more inside. high (suc i) (omega arith) (omega arith))

module _ (net : Net) (network : IsNetwork net) (arrivals : Amounts) (heard seen : ℕ → ℕ → List Heard) (made other : ℕ → ℕ → Commitment) (round n : ℕ) (below : n < length net.node_names)
    (before : SameBefore net network (arriving_of arrivals) made other round) (h : heard round n ≡ seen round n) (m : made round n ≡ other round n) where
  listens-moved : {c : ℕ} {a : Acting} → Listens net arrivals heard made round c n a → Listens net arrivals seen other round c n a
  listens-moved x = record {
    node_is = x.node_is;
    round_is = x.round_is;
    sensed = x.sensed ∙ sensed-same net network (arriving_of arrivals) made other round n before;
    so_far = x.so_far ∙ h;
    count = x.count;
    left = x.left;
    want = x.want;
    line = x.line ∙ lines-same net network (arriving_of arrivals) made other round n before below;
    records = x.records;
  }

  -- a node that others leave alone
  pub plays-moved : (c : ℕ) (a : Acting) → Plays net arrivals heard made round c n a → Plays net arrivals seen other round c n a
  plays-moved c a plays = record {
    node_is = plays.node_is;
    of = plays.of;
    stage = elim plays.stage [
      | inl x ↦ inl (record { more = x.more; listens = listens-moved x.listens })
      | inr x ↦ inr (record {
        enough = x.enough;
        commits = commits-moved net network (arriving_of arrivals) made other heard seen round n before below h m x.commits;
        tells_of = λ link w. (let t = x.tells_of link w in record {
          now = t.now;
          window = t.window ∙ ap (λ (c : Commitment). c.window) m;
          phases = t.phases ∙ ap (λ (c : Commitment). phases_of c.answer) m;
          served = t.served ∙ ap (λ (c : Commitment). c.served) m;
        });
        want = x.want;
        line = x.line ∙ ap (λ (c : Commitment). c.line) m;
        ahead = x.ahead;
        records = x.records ∙ ap (λ (l : List Heard). record_of n round l (made round n) ∷ []) h ∙ ap (λ (c : Commitment). record_of n round (seen round n) c ∷ []) m;
      })
    ];
  }

module _ (net : Net) (network : IsNetwork net) (arrivals : Amounts) (heard : ℕ → ℕ → List Heard) (made : ℕ → ℕ → Commitment) (round n : ℕ) (below : n < length net.node_names) where
  pub listens-on : (c : ℕ) (a : Acting) → IsOf net a → Listens net arrivals heard made round c n a → c < length (heard_links net n) → Plays net arrivals heard made round c n a
  listens-on c a of x more = record {
    node_is = x.node_is;
    of = of;
    stage = inl (record { more = more; listens = x });
  }

  -- one reading more
  pub took : (c : ℕ) (a : Acting) (h : Heard) → Listens net arrivals heard made round c n a → Listens net arrivals (put heard round n (heard round n ++ h ∷ [])) made round (c + 1) n (with_heard h a)
  took c a h x =
      let left : drop 1 a.left ≡ drop (c + 1) (heard_links net n) = ap (drop 1) x.left ∙ drop-drop 1 c (heard_links net n) in
      record {
        node_is = x.node_is;
        round_is = x.round_is;
        sensed = x.sensed;
        so_far = ap (λ l. l ++ h ∷ []) x.so_far ∙ sym (put-here heard round n (heard round n ++ h ∷ []));
        count = length_push a.heard h ∙ ap (λ k. k + 1) x.count;
        left = left;
        want = ap reading left;
        line = x.line;
        records = x.records;
      }

  -- the commit
  module _ (old new : Acting) (x : Listens net arrivals heard made round (length (heard_links net n)) n old) (c : IsCommitted net old new) (kept : KeepsPast net old new) where
    abbrev committed : ℕ → ℕ → Commitment
    committed = put made round n c.made

    before : SameBefore net network (arriving_of arrivals) made committed round
    before s m less inside = sym (put-round made round n c.made s m (λ e. omega arith))

    own : committed round n ≡ c.made
    own = put-here made round n c.made

    moved : IsCommit net n round (line_before net made round n) (sensed_in net (arriving_of arrivals) made round n) (heard round n) c.made
    moved =
        subst (λ k. IsCommit net k round (line_before net made round n) (sensed_in net (arriving_of arrivals) made round n) (heard round n) c.made) x.node_is
        (subst (λ k. IsCommit net old.node k (line_before net made round n) (sensed_in net (arriving_of arrivals) made round n) (heard round n) c.made) x.round_is
        (subst (λ (l : List Green). IsCommit net old.node old.round l (sensed_in net (arriving_of arrivals) made round n) (heard round n) c.made) x.line
        (subst (λ (s : Sensed). IsCommit net old.node old.round old.line s (heard round n) c.made) x.sensed
        (subst (λ (l : List Heard). IsCommit net old.node old.round old.line old.sensed l c.made) x.so_far c.is))))

    commits : Commits net (arriving_of arrivals) heard committed round n
    commits = record {
      links = ap (map (λ (y : Heard). y.link)) (sym x.so_far) ∙ sym (used-links old.heard) ∙ kept.used ∙ ap (heard_links net) x.node_is;
      commit = subst (IsCommit net n round (line_before net committed round n) (sensed_in net (arriving_of arrivals) committed round n) (heard round n)) (sym own)
          (commit-moved net network (arriving_of arrivals) made committed round n (heard round n) (heard round n) c.made before below refl moved);
    }

    records : new.records ≡ record_of n round (heard round n) (committed round n) ∷ []
    records =
        ap (λ (a : Acting). a.records) c.all
        ∙ ap (λ (l : List PlanRecord). l ++ record_of old.node old.round old.heard c.made ∷ []) x.records
        ∙ ap (λ (p : PlanRecord). p ∷ []) (ap (λ k. record_of k old.round old.heard c.made) x.node_is ∙ ap (λ k. record_of n k old.heard c.made) x.round_is ∙ ap (λ (l : List Heard). record_of n round l c.made) x.so_far ∙ ap (record_of n round (heard round n)) (sym own))

    first-told : (l : List ℕ) → telling (find (λ k. nat_le 0 k) l) ≡ telling_first l
    first-told l = find-from 0 l 0 (λ i less inside. absurd (omega arith)) (λ i more inside. omega arith)

    pub commits-on : IsOf net new → Plays net arrivals heard committed round (length (heard_links net n)) n new
    commits-on of = record {
      node_is = ap (λ (a : Acting). a.node) c.all ∙ x.node_is;
      of = of;
      stage = inr (record {
        enough = omega arith;
        commits = commits;
        tells_of = λ link w. record {
          now = ap (λ (a : Acting). a.sensed.now) c.all ∙ ap (λ (s : Sensed). s.now) x.sensed;
          window = ap (λ (a : Acting). a.window) c.all ∙ ap (λ (c : Commitment). c.window) (sym own);
          phases = ap (λ (a : Acting). a.phases) c.all ∙ ap (λ (c : Commitment). phases_of c.answer) (sym own);
          served = ap (λ (a : Acting). a.served) c.all ∙ ap (λ (c : Commitment). c.served) (sym own);
        };
        want = ap (λ (a : Acting). a.want) c.all ∙ ap (λ k. tells_from net k 0) x.node_is ∙ first-told (told_links net n) ∙ ap (λ k. telling_first (drop k (told_links net n))) (let e : 0 ≡ length (heard_links net n) - length (heard_links net n) = omega arith in e);
        line = ap (λ (a : Acting). a.line) c.all ∙ ap (λ (c : Commitment). c.line) (sym own);
        ahead = subst (λ k. (k + 1) * net.run.step < end_of new.line) x.round_is kept.later;
        records = records;
      });
    }

-- the ends of a link on which a node tells another one
pub record TellsTo (net : Net) (n link : ℕ) : Type 0 where
  pub hearer : ℕ
  pub exists : link < length net.links
  pub from : (link_at net link).from ≡ Some n
  pub to : (link_at net link).to ≡ Some hearer

exit-rise : (net : Net) (n : ℕ) → IsStrictlyIncreasing (exit_links net n)
exit-rise net n = search (rise-at)

exit-have : (net : Net) (n : ℕ) → All (λ l. (l < length net.links) × ((link_at net l).from ≡ Some n)) (exit_links net n)
exit-have net n = search (have-at)

told-rise : (net : Net) (n : ℕ) → IsStrictlyIncreasing (told_links net n)
told-rise net n = IsStrictlyIncreasing-filter (λ l. is_some (link_at net l).to) (exit_links net n) (exit-rise net n)

pub told-ends : (net : Net) (n k : ℕ) → k < length (told_links net n) → TellsTo net n (get_or (told_links net n) k 0)
told-ends net n k inside =
    let link : ℕ = get_or (told_links net n) k 0 in
    let goes : is_some (link_at net link).to ≡ true = All-get_or (λ l. is_some (link_at net l).to ≡ true) (told_links net n) k 0 inside (filter_passes (λ l. is_some (link_at net l).to) (exit_links net n)) in
    let at : (link < length net.links) × ((link_at net link).from ≡ Some n) = All-get_or (λ l. (l < length net.links) × ((link_at net l).from ≡ Some n)) (told_links net n) k 0 inside (All-filter (λ l. is_some (link_at net l).to) (λ l. (l < length net.links) × ((link_at net l).from ≡ Some n)) (exit_links net n) (exit-have net n)) in
    by link (link_at net link).to refl goes at
  where
    by : (link : ℕ) (o : Option ℕ) → (link_at net link).to ≡ o → is_some o ≡ true → (link < length net.links) × ((link_at net link).from ≡ Some n) → TellsTo net n link
    by link None e goes at = absurd (let f : false ≡ true = goes in cc)
    by link (Some t) e goes at = record { hearer = t; exists = at.0; from = at.1; to = e }

-- the next link after one that is told
pub next-told : (net : Net) (n k : ℕ) → k < length (told_links net n) → tells_from net n (get_or (told_links net n) k 0 + 1) ≡ telling_first (drop (k + 1) (told_links net n))
next-told net n k inside =
    let links : List ℕ = told_links net n in
    let up = AllPairs-from_increasing links (told-rise net n) in
    find-from (get_or links k 0 + 1) links (k + 1)
    (λ i less within. elim (cases_lt i k) [
      | inl before ↦ (let z = up i k 0 before inside in omega arith)
      | inr past ↦ (let e : i ≡ k = omega arith in omega (arith, ap (λ j. get_or links j 0) e))
    ])
    (λ i more within. (let z = up k i 0 (omega arith) within in omega arith))

module _ (net : Net) (arrivals : Amounts) (heard : ℕ → ℕ → List Heard) (made : ℕ → ℕ → Commitment) (round n : ℕ) where
  -- one publishing more
  pub tells-on : (c : ℕ) (a new : Acting) → a.node ≡ n → Tells net arrivals heard made round c n a → c - length (heard_links net n) < length (told_links net n)
      → HasTold (tells_from net a.node (get_or (told_links net n) (c - length (heard_links net n)) 0 + 1)) a new
      → TellsOf net round (made round n) a → Tells net arrivals heard made round (c + 1) n new
  tells-on c a new node x inside told of = elim told [
    | inl e ↦ subst (Tells net arrivals heard made round (c + 1) n) (sym e) (on (wanting next a) refl refl refl (λ link w. record { now = of.now; window = of.window; phases = of.phases; served = of.served }))
    | inr r ↦ subst (Tells net arrivals heard made round (c + 1) n) (sym r.1) (on (resting (wanting next a)) refl refl refl (λ link w. absurd (let e : Done ≡ Publish link = sym r.0 ∙ w in cc)))
  ]
    where
      next : Want
      next = tells_from net a.node (get_or (told_links net n) (c - length (heard_links net n)) 0 + 1)

      on : (b : Acting) → b.want ≡ next → b.line ≡ a.line → b.records ≡ a.records → ((link : ℕ) → b.want ≡ Publish link → TellsOf net round (made round n) b) → Tells net arrivals heard made round (c + 1) n b
      on b want line records still =
          let enough : length (heard_links net n) ≤ c = x.enough in
          record {
            enough = omega arith;
            commits = x.commits;
            tells_of = still;
            want =
                want
                ∙ ap (λ k. tells_from net k (get_or (told_links net n) (c - length (heard_links net n)) 0 + 1)) node
                ∙ next-told net n (c - length (heard_links net n)) inside
                ∙ ap (λ k. telling_first (drop k (told_links net n))) (let e : c - length (heard_links net n) + 1 ≡ c + 1 - length (heard_links net n) = omega arith in e);
            line = line ∙ x.line;
            ahead = subst (λ l. (round + 1) * net.run.step < end_of l) (sym line) x.ahead;
            records = records ∙ x.records;
          }

-- a node that has told is the same node
pub told-node : (want : Want) (old new : Acting) → HasTold want old new → new.node ≡ old.node
told-node want old new (inl e) = ap (λ (a : Acting). a.node) e
told-node want old new (inr r) = ap (λ (a : Acting). a.node) r.1

-- a node that rests while others commit in the round
pub rests-moved : (net : Net) (network : IsNetwork net) (arrivals : Amounts) (made other : ℕ → ℕ → Commitment) (round n : ℕ) (a : Acting) → n < length net.node_names → SameBefore net network (arriving_of arrivals) made other round
    → Rests net made round n a → Rests net other round n a
rests-moved net network arrivals made other round n a below before x = record {
  node_is = x.node_is;
  of = x.of;
  want = x.want;
  line = x.line ∙ lines-same net network (arriving_of arrivals) made other round n before below;
  ahead = x.ahead;
  records = x.records;
}
