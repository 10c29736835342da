-- A table that is read in groups of keys stands for the same as one that is read key by key.
use Rattle.std.proofs.Common.{◌≡◌, ℕ, true, false, [], ◌∷◌, Option, Some, None, is_some, refl}
use Rattle.std.specs.Prelude.{codes}
use Rattle.toml.specs.Data.{Data, Members, as_table}
use Rattle.foundation.specs.Options.{◌>>=◌}
use Rattle.phase_plan.specs.declared.Phase.{Phase}
use Rattle.net_tables.specs.Parts.{numbers_at, optional_numbers_at, top_keys, top_lists, top_fields, run_fields, phase_times, phase_fields, link_numbers, link_ends, link_fields}
use Rattle.net_tables.specs.Table.{TopForm, PhaseForm, LinkForm, only, top_form, table_at, run_keys, run_of, is_third, phase_keys, phase_keys_in, phase_form, link_keys, link_keys_in, link_form, number_at, optional_number_at, flag_at, weight_at, text_at, optional_text_at, list_at, optional_list_at, yields_at, walk_at}
use Rattle.net_parts.specs.declared.drafts.Run.{Run}

-- two options one after the other, as one
abbrev both : {X Y : Type 0} → Option X → Option Y → Option (X × Y)
both a b = a >>= λ x. b >>= λ y. Some (x, y)

-- three of them, the first two as one
abbrev three : {X : Type 0} → Option X → Option X → Option X → Option (X × X × X)
three a b c = both a b >>= λ p. c >>= λ z. Some (p.0, p.1, z)

-- four options, another one, two more and two more, in pairs, and another one
pairs-run : {X Y Z W : Type 0} (a b c d : Option X) (e : Option Y) (f g h i j : Option Z) (k : X → X → X → X → Y → Z → Z → Z → Z → Z → W)
    → (a >>= λ a. b >>= λ b. c >>= λ c. d >>= λ d. e >>= λ e. f >>= λ f. g >>= λ g. h >>= λ h. i >>= λ i. j >>= λ j. Some (k a b c d e f g h i j))
    ≡ (both a b >>= λ p. both c d >>= λ q. e >>= λ e. both f g >>= λ r. both h i >>= λ s. j >>= λ j. Some (k p.0 p.1 q.0 q.1 e r.0 r.1 s.0 s.1 j))
pairs-run None b c d e f g h i j k = refl
pairs-run (Some a) None c d e f g h i j k = refl
pairs-run (Some a) (Some b) None d e f g h i j k = refl
pairs-run (Some a) (Some b) (Some c) None e f g h i j k = refl
pairs-run (Some a) (Some b) (Some c) (Some d) None f g h i j k = refl
pairs-run (Some a) (Some b) (Some c) (Some d) (Some e) None g h i j k = refl
pairs-run (Some a) (Some b) (Some c) (Some d) (Some e) (Some f) None h i j k = refl
pairs-run (Some a) (Some b) (Some c) (Some d) (Some e) (Some f) (Some g) None i j k = refl
pairs-run (Some a) (Some b) (Some c) (Some d) (Some e) (Some f) (Some g) (Some h) None j k = refl
pairs-run (Some a) (Some b) (Some c) (Some d) (Some e) (Some f) (Some g) (Some h) (Some i) None k = refl
pairs-run (Some a) (Some b) (Some c) (Some d) (Some e) (Some f) (Some g) (Some h) (Some i) (Some j) k = refl

-- six options and another one, in pairs as one, and then two more
pairs-phase : {X Y Z P W : Type 0} (a b c d e f : Option X) (g : Option Y) (h i : Option Z) (m : X → X → X → X → X → X → Y → P) (k : P → Z → Z → W)
    → (a >>= λ a. b >>= λ b. c >>= λ c. d >>= λ d. e >>= λ e. f >>= λ f. g >>= λ g. h >>= λ h. i >>= λ i. Some (k (m a b c d e f g) h i))
    ≡ ((both a b >>= λ p. both c d >>= λ q. both e f >>= λ r. g >>= λ g. Some (m p.0 p.1 q.0 q.1 r.0 r.1 g)) >>= λ x. h >>= λ h. i >>= λ i. Some (k x h i))
pairs-phase None b c d e f g h i m k = refl
pairs-phase (Some a) None c d e f g h i m k = refl
pairs-phase (Some a) (Some b) None d e f g h i m k = refl
pairs-phase (Some a) (Some b) (Some c) None e f g h i m k = refl
pairs-phase (Some a) (Some b) (Some c) (Some d) None f g h i m k = refl
pairs-phase (Some a) (Some b) (Some c) (Some d) (Some e) None g h i m k = refl
pairs-phase (Some a) (Some b) (Some c) (Some d) (Some e) (Some f) None h i m k = refl
pairs-phase (Some a) (Some b) (Some c) (Some d) (Some e) (Some f) (Some g) h i m k = refl

-- three options as one, and two as one, after one and before three
pairs-link : {N X E Y V T W : Type 0} (n : Option N) (a b w : Option X) (f t : Option E) (y : Option Y) (v : Option V) (l : Option T) (k : N → X → X → X → E → E → Y → V → T → W)
    → (n >>= λ n. a >>= λ a. b >>= λ b. w >>= λ w. f >>= λ f. t >>= λ t. y >>= λ y. v >>= λ v. l >>= λ l. Some (k n a b w f t y v l))
    ≡ (n >>= λ n. three a b w >>= λ m. both f t >>= λ e. y >>= λ y. v >>= λ v. l >>= λ l. Some (k n m.0 m.1 m.2 e.0 e.1 y v l))
pairs-link None a b w f t y v l k = refl
pairs-link (Some n) None b w f t y v l k = refl
pairs-link (Some n) (Some a) None w f t y v l k = refl
pairs-link (Some n) (Some a) (Some b) None f t y v l k = refl
pairs-link (Some n) (Some a) (Some b) (Some w) None t y v l k = refl
pairs-link (Some n) (Some a) (Some b) (Some w) (Some f) None y v l k = refl
pairs-link (Some n) (Some a) (Some b) (Some w) (Some f) (Some t) y v l k = refl

-- three options one after the other, as one
abbrev lists : {X : Type 0} → Option X → Option X → Option X → Option (X × X × X)
lists a b c = a >>= λ x. b >>= λ y. c >>= λ z. Some (x, y, z)

-- two options, and three as one
lists-top : {X Y Z W : Type 0} (a : Option X) (b : Option Y) (c d e : Option Z) (k : X → Y → Z → Z → Z → W)
    → (a >>= λ a. b >>= λ b. c >>= λ c. d >>= λ d. e >>= λ e. Some (k a b c d e))
    ≡ (a >>= λ a. b >>= λ b. lists c d e >>= λ l. Some (k a b l.0 l.1 l.2))
lists-top None b c d e k = refl
lists-top (Some a) None c d e k = refl
lists-top (Some a) (Some b) None d e k = refl
lists-top (Some a) (Some b) (Some c) None e k = refl
lists-top (Some a) (Some b) (Some c) (Some d) None k = refl
lists-top (Some a) (Some b) (Some c) (Some d) (Some e) k = refl

-- the own form of the whole file, in a table that has its keys and no other
pub top-by_fields : (ms inner : Members) → Some inner ≡ only top_keys ms → top_form ms ≡ top_fields inner
unfolding top_form top_fields top_lists top_keys
top-by_fields ms inner is =
    rw (← is)
    (lists-top (optional_number_at (codes "version") inner) (table_at (codes "run") inner) (list_at (codes "node") inner) (list_at (codes "link") inner) (optional_list_at (codes "conflict") inner)
    (λ version run nodes links conflicts. let form : TopForm = record { version = version; run = run; nodes = nodes; links = links; conflicts = conflicts } in form))

-- the run of a table that has its keys and no other
pub run-by_fields : (ms inner : Members) → Some inner ≡ only run_keys ms → run_of ms ≡ run_fields inner
unfolding run_of run_fields numbers_at optional_numbers_at
run-by_fields ms inner is =
    rw (← is)
    (pairs-run (number_at (codes "step") inner) (number_at (codes "look") inner) (number_at (codes "gap") inner) (number_at (codes "rounds") inner) (flag_at false (codes "split") inner) (optional_number_at (codes "age") inner) (optional_number_at (codes "hold") inner) (optional_number_at (codes "recall") inner)
    (optional_number_at (codes "act_step") inner) (optional_number_at (codes "rate") inner)
    (λ step look gap rounds split age hold recall act_step rate.
    let run : Run = record { step = step; look = look; gap = gap; rounds = rounds; split = split; age = age; hold = hold; recall = recall; act_step = act_step; rate = rate } in run))

-- the own form of a phase, in such a table
pub phase-by_fields : (version : Option ℕ) (d : Data) (ms inner : Members) → Some ms ≡ as_table d → Some inner ≡ only (phase_keys_in version) ms → phase_form version d ≡ phase_fields version inner
unfolding phase_form phase_fields phase_times numbers_at
phase-by_fields version d ms inner table is =
    rw (← table, ← is)
    (pairs-phase (number_at (codes "least") inner) (number_at (codes "greatest") inner) (number_at (codes "yellow") inner) (number_at (codes "clear") inner) (number_at (codes "loss") inner) (number_at (codes "wait") inner) (flag_at (is_some version) (codes "skip") inner) (list_at (codes "links") inner) (optional_list_at (codes "also") inner)
    (λ least greatest yellow clear loss wait skip. let phase : Phase = record { least = least; greatest = greatest; yellow = yellow; clear = clear; loss = loss; wait = wait; skip = skip } in phase)
    (λ phase links also. let form : PhaseForm = record { phase = phase; links = links; also = also } in form))

-- the own form of a link, in such a table
pub link-by_fields : (version : Option ℕ) (d : Data) (ms inner : Members) → Some ms ≡ as_table d → Some inner ≡ only (link_keys_in version) ms → link_form version d ≡ link_fields version inner
unfolding link_form link_fields link_numbers link_ends numbers_at
link-by_fields version d ms inner table is =
    rw (← table, ← is)
    (pairs-link (text_at (codes "name") inner) (number_at (codes "travel") inner) (number_at (codes "sat") inner) (weight_at (is_some version) (codes "weight") inner) (optional_text_at (codes "from") inner) (optional_text_at (codes "to") inner) (yields_at inner) (walk_at inner) (optional_list_at (codes "turn") inner)
    (λ name travel sat weight from to yields walk turns. let form : LinkForm = record { name = name; from = from; to = to; travel = travel; sat = sat; weight = weight; yields = yields; walk = walk; turns = turns } in form))

-- the keys of a phase and of a link, in a file of version 3 and in each other
pub phase-third : (version : Option ℕ) → is_third version ≡ true → phase_keys_in version ≡ codes "also" ∷ codes "least" ∷ codes "greatest" ∷ codes "yellow" ∷ codes "clear" ∷ codes "loss" ∷ codes "wait" ∷ codes "links" ∷ codes "skip" ∷ []
unfolding phase_keys_in phase_keys
phase-third version is = rw is refl

pub phase-other : (version : Option ℕ) → is_third version ≡ false → phase_keys_in version ≡ codes "least" ∷ codes "greatest" ∷ codes "yellow" ∷ codes "clear" ∷ codes "loss" ∷ codes "wait" ∷ codes "links" ∷ codes "skip" ∷ []
unfolding phase_keys_in phase_keys
phase-other version is = rw is refl

pub link-third : (version : Option ℕ) → is_third version ≡ true → link_keys_in version ≡ codes "yields" ∷ codes "yield_sat" ∷ codes "walk" ∷ codes "cross" ∷ codes "name" ∷ codes "from" ∷ codes "to" ∷ codes "travel" ∷ codes "sat" ∷ codes "weight" ∷ codes "turn" ∷ []
unfolding link_keys_in link_keys
link-third version is = rw is refl

pub link-other : (version : Option ℕ) → is_third version ≡ false → link_keys_in version ≡ codes "name" ∷ codes "from" ∷ codes "to" ∷ codes "travel" ∷ codes "sat" ∷ codes "weight" ∷ codes "turn" ∷ []
unfolding link_keys_in link_keys
link-other version is = rw is refl
