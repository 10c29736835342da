-- How requests are answered one after another, and how that ends.
use Rattle.std.proofs.Common.{◌≡◌, ℕ, ◌+◌, ◌-◌, ◌^◌, ◌≤◌, List, [], ◌∷◌, ◌++◌, Option, Some, None, Result, Ok, Err, length, take, refl, sym, ap, ◌∙◌, subst, arith, append-nil, append_assoc, length-append, inl, inr}
use Rattle.std.specs.Prelude.{◌⊎◌, IfErr, IsSome, OnOk}
use Rattle.std.specs.Io.KnownBytes.{IsAtEnd, append_known}
use Rattle.std.specs.List.{concat, flat_map}
use Rattle.std.proofs.lemmas.Grind.{flat_map-append}
use Rattle.std.proofs.lemmas.List.{take-take}
use Rattle.std.proofs.lemmas.List.Elements.{All-append, All-cons, All-nil}
use Rattle.std.proofs.lemmas.List.Folds.{concat-append}
use Rattle.outside_world.specs.Shelf.{Files, GainsLast, ShelfState}
use Rattle.outside_world.specs.Sink.{Breaks, Gains, Rose, SinkState, one_more}
use Rattle.outside_world.specs.Source.{Comes, SourceState}
use Rattle.outside_world.specs.declared.source.LineRead.{LineRead}
use Rattle.outside_world.specs.declared.source.LineRead.TheVariants as read
use Rattle.outside_world.proofs.ShelfLemmas.{GainsLast-apart}
use Rattle.net_parts.specs.Numbers.{Net}
use Rattle.scene_jobs.specs.Kinds.{NetworkText}
use Rattle.commands.specs.Outcome.{Outside}
use Rattle.commands.specs.Refusals.{Refuses, Says, Writes, bad_line}
use Rattle.commands.specs.Stops.{StopsAt}
use Rattle.commands.specs.Texts.{IsBad, IsIn, Reads, text_of}
use Rattle.commands.specs.declared.refusals.Refusal.{Refusal}
use Rattle.commands.specs.declared.refusals.Refusal.TheVariants as refusal
use Rattle.commands.specs.declared.refusals.TextPlace.TheVariants.{First, Second, Third}
use Rattle.commands.specs.declared.status.Status.{Status}
use Rattle.commands.specs.declared.status.Status.TheVariants.{Done, BadInput, ReadFault, WriteFault, NoMemory}
use Rattle.round_jobs.specs.Gathering.{EndsServing, IsAnswered, IsAnsweredAll, IsGathered, IsHeard, IsOf, IsPut, IsServing, IsUntaken, request_of}
use Rattle.round_jobs.specs.Requests.{AllCome, EndsRequest, IsRequest, Request, lines_of}
use Rattle.round_jobs.specs.Serving.{AreAnswered, AreAnswers, HasEnded, IsAnswer, IsBrokenOff, IsCutOff, IsServed, Records, Serves, answer_to_others}
use Rattle.round_jobs.specs.declared.requests.Gathered.{Gathered}
use Rattle.round_states.specs.NextTexts.{AreKept}
use Rattle.round_states.specs.declared.kept_records.KeptRecords.{KeptRecords}

-- what is read of a line has its front
same-front : (n : ℕ) → n ≤ 5 → (line : List ℕ) (r : LineRead) (kept : List ℕ) → IsOf line r kept → take n kept ≡ take n line
same-front n short line read.End kept is = absurd is
same-front n short line read.Whole kept is = ap (take n) is
same-front n short line read.Part kept is = ap (take n) is.front ∙ take-take n (length kept) line (let long = is.long in omega arith)

pub ends-whole : (line : List ℕ) (r : LineRead) (kept : List ℕ) → IsOf line r kept → EndsRequest kept → EndsRequest line
ends-whole line r kept is ends = let e = same-front 4 (omega arith) line r kept is in let five = same-front 5 (omega arith) line r kept is in elim ends [
  | inl (inl feed) ↦ inl (inl (sym e ∙ feed))
  | inl (inr (inl comma)) ↦ inl (inr (inl (sym e ∙ comma)))
  | inl (inr (inr alone)) ↦ inl (inr (inr (sym e ∙ alone)))
  | inr (inl feed) ↦ inr (inl (sym five ∙ feed))
  | inr (inr alone) ↦ inr (inr (sym five ∙ alone))
]

pub ends-kept : (line : List ℕ) (r : LineRead) (kept : List ℕ) → IsOf line r kept → EndsRequest line → EndsRequest kept
ends-kept line r kept is ends = let e = same-front 4 (omega arith) line r kept is in let five = same-front 5 (omega arith) line r kept is in elim ends [
  | inl (inl feed) ↦ inl (inl (e ∙ feed))
  | inl (inr (inl comma)) ↦ inl (inr (inl (e ∙ comma)))
  | inl (inr (inr alone)) ↦ inl (inr (inr (e ∙ alone)))
  | inr (inl feed) ↦ inr (inl (five ∙ feed))
  | inr (inr alone) ↦ inr (inr (five ∙ alone))
]

-- an answer that could not be written whole
pub heard-broken : (net : Net) (told : Records) (lines : List (List ℕ)) (line : List ℕ) (after : Gathered) (kept : KeptRecords) (out out' : SinkState) (answer : List ℕ) (last : Records) (why : Refusal) → EndsRequest line → IsAnswer net told (request_of lines line) answer last → IsPut answer out out' (Err why)
    → IsHeard net told lines line after kept out out' (Err why)
heard-broken net told lines line after kept out out' answer last refusal.Unwritten ends is put = (answer, last, record { ends = ends; is = is }, put)
heard-broken net told lines line after kept out out' answer last _ ends is put = absurd put

-- one answer more
answers-more : (net : Net) (first : Records) (requests : List Request) (answers : List (List ℕ)) (told : Records) (request : Request) (answer : List ℕ) (last : Records) → AreAnswers net first requests answers told → IsAnswer net told request answer last
    → AreAnswers net first (requests ++ request ∷ []) (answers ++ answer ∷ []) last
answers-more net first [] [] told request answer last are is = (last, subst (λ (t : Records). IsAnswer net t request answer last) are is, refl)
answers-more net first [] (a ∷ answers) told request answer last are is = absurd are
answers-more net first (r ∷ requests) [] told request answer last are is = absurd are
answers-more net first (r ∷ requests) (a ∷ answers) told request answer last are is = (are.0, are.1, answers-more net are.0 requests answers told request answer last are.2 is)

-- what holds in any case holds where there is a value
pub on-ok : {T E P : Type 0} (result : Result T E) → P → OnOk result P
on-ok (Ok value) is = is
on-ok (Err why) is = tt

-- bytes after others
both : (known : Option (List ℕ)) (a b : List ℕ) → append_known (append_known known a) b ≡ append_known known (a ++ b)
both None a b = refl
both (Some xs) a b = ap Some (append_assoc xs a b)

gains-more : (out mid out' : SinkState) (a b : List ℕ) → Gains out mid a → Gains mid out' b → Gains out out' (a ++ b)
gains-more out mid out' a b first second =
    second ∙ ap (λ (s : SinkState). record { written = append_known s.written b; faults = s.faults }) first ∙ ap (λ w. record { written = w; faults = out.faults }) (both out.written a b)

-- one line more came
come-more : (old : SourceState) (lines : List (List ℕ)) (now next : SourceState) (line : List ℕ) → AllCome old lines now → Comes now next line → AllCome old (lines ++ line ∷ []) next
come-more old [] now next line come is = (next, subst (λ (s : SourceState). Comes s next line) come is, refl)
come-more old (l ∷ lines) now next line come is = (come.0, come.1, come-more come.0 lines now next line come.2 is)

-- and no fault
same-faults : (old : SourceState) (lines : List (List ℕ)) (now : SourceState) → AllCome old lines now → now.faults ≡ old.faults
same-faults old [] now come = ap (λ (s : SourceState). s.faults) come
same-faults old (l ∷ lines) now come = same-faults come.0 lines now come.2 ∙ come.1.faults

none : (known : Option (List ℕ)) → known ≡ append_known known []
none None = refl
none (Some xs) = ap Some (sym (append-nil xs))

nothing : (s : SinkState) → Gains s s []
nothing s = ap (λ w. record { written = w; faults = s.faults }) (none s.written)

module _ (net : Net) (from : SourceState) (out : SinkState) where
  -- nothing came yet
  pub serving-none : (g : Gathered) (kept : KeptRecords) → IsGathered [] g → AreKept net [] kept → IsServing net from from out out g kept 0
  serving-none g kept is told = record {
    lines = [];
    others = [];
    answers = [];
    answered = record { come = refl; requests = []; are = record { are = refl; each = All-nil IsRequest; rest = All-nil (λ line. ¬ EndsRequest line) }; told = []; each = refl };
    gathered = is;
    told = told;
    written = nothing out;
    counted = refl;
  }

  module _ (now next : SourceState) (mid out' : SinkState) (g after : Gathered) (k kept : KeptRecords) (count : ℕ) (line : List ℕ) (so_far : IsServing net from now out mid g k count) (comes : Comes now next line) where
    counted-more : length (so_far.lines ++ line ∷ []) ≡ count + 1
    counted-more = length-append so_far.lines (line ∷ []) ∙ ap (λ (n : ℕ). n + 1) so_far.counted

    come : AllCome from (so_far.lines ++ line ∷ []) next
    come = come-more from so_far.lines now next line so_far.answered.come comes

    -- a line of a state
    goes-on : ¬ EndsRequest line → IsGathered (so_far.others ++ line ∷ []) after → AreKept net so_far.answered.told kept → out' ≡ mid → IsServing net from next out out' after kept (count + 1)
    goes-on other is told same = record {
      lines = so_far.lines ++ line ∷ [];
      others = so_far.others ++ line ∷ [];
      answers = so_far.answers;
      answered = record {
        come = come;
        requests = so_far.answered.requests;
        are = record {
          are = ap (λ (l : List (List ℕ)). l ++ line ∷ []) so_far.answered.are.are ∙ append_assoc (flat_map lines_of so_far.answered.requests) so_far.others (line ∷ []);
          each = so_far.answered.are.each;
          rest = All-append (λ l. ¬ EndsRequest l) so_far.others (line ∷ []) so_far.answered.are.rest (All-cons (λ l. ¬ EndsRequest l) line [] other (All-nil (λ l. ¬ EndsRequest l)));
        };
        told = so_far.answered.told;
        each = so_far.answered.each;
      };
      gathered = is;
      told = told;
      written = subst (λ (s : SinkState). Gains out s (concat so_far.answers)) (sym same) so_far.written;
      counted = counted-more;
    }

    -- the requests with one more, that this line ends
    abbrev one : Request
    one = request_of so_far.others line

    answered-more : (answer : List ℕ) (last : Records) → IsAnswered net so_far.answered.told so_far.others line answer last → AreAnswered net from next (so_far.lines ++ line ∷ []) [] (so_far.answers ++ answer ∷ [])
    answered-more answer last is = record {
      come = come;
      requests = so_far.answered.requests ++ one ∷ [];
      are = record {
        are = ap (λ (l : List (List ℕ)). l ++ line ∷ []) so_far.answered.are.are ∙ append_assoc (flat_map lines_of so_far.answered.requests) so_far.others (line ∷ [])
            ∙ ap (λ (l : List (List ℕ)). flat_map lines_of so_far.answered.requests ++ l) (sym (append-nil (so_far.others ++ line ∷ [])))
            ∙ sym (flat_map-append lines_of so_far.answered.requests (one ∷ [])) ∙ sym (append-nil (flat_map lines_of (so_far.answered.requests ++ one ∷ [])));
        each = All-append IsRequest so_far.answered.requests (one ∷ []) so_far.answered.are.each (All-cons IsRequest one [] (record { lines = so_far.answered.are.rest; last = is.ends }) (All-nil IsRequest));
        rest = All-nil (λ l. ¬ EndsRequest l);
      };
      told = last;
      each = answers-more net [] so_far.answered.requests so_far.answers so_far.answered.told one answer last so_far.answered.each is.is;
    }

    joined : (answer : List ℕ) → concat so_far.answers ++ answer ≡ concat (so_far.answers ++ answer ∷ [])
    joined answer = ap (λ (l : List ℕ). concat so_far.answers ++ l) (sym (append-nil answer)) ∙ sym (concat-append so_far.answers (answer ∷ []))

    -- a request was answered
    answers-one : IsGathered [] after → (answer : List ℕ) (last : Records) → IsAnswered net so_far.answered.told so_far.others line answer last → AreKept net last kept → Gains mid out' answer → IsServing net from next out out' after kept (count + 1)
    unfolding answered-more
    answers-one is answer last answered told gains = record {
      lines = so_far.lines ++ line ∷ [];
      others = [];
      answers = so_far.answers ++ answer ∷ [];
      answered = answered-more answer last answered;
      gathered = is;
      told = told;
      written = subst (Gains out out') (joined answer) (gains-more out mid out' (concat so_far.answers) answer so_far.written gains);
      counted = counted-more;
    }

    pub serving-more : (done : Unit {0}) → IsHeard net so_far.answered.told so_far.others line after kept mid out' (Ok done) → IsServing net from next out out' after kept (count + 1)
    serving-more done heard = elim heard [
      | inl (other, gathered, told, same) ↦ goes-on other gathered told same
      | inr (gathered, (answer, last, answered, told, gains)) ↦ answers-one gathered answer last answered told gains
    ]

    -- or its answer could not be written whole
    pub serving-broken : (why : Refusal) → IsHeard net so_far.answered.told so_far.others line after kept mid out' (Err why) → IsAnsweredAll net from next out out' (Err why)
    serving-broken refusal.Unwritten (answer, last, answered, breaks) = record {
      lines = so_far.lines ++ line ∷ [];
      others = [];
      answers = so_far.answers;
      last = answer;
      is = answered-more answer last answered;
      middle = mid;
      before = so_far.written;
      breaks = breaks;
    }
    serving-broken _ heard = absurd heard

  module _ (now : SourceState) (mid : SinkState) (g : Gathered) (k : KeptRecords) (count : ℕ) (so_far : IsServing net from now out mid g k count) where
    ends-all : IsAtEnd now.left ⊎ (count ≡ 2 ^ 64 - 1) → HasEnded now so_far.lines
    ends-all ended = elim ended [ inl end ↦ inl end | inr all ↦ inr (so_far.counted ∙ all) ]

    -- the answer to the lines after the last request could not be written whole
    others-broken : (out' : SinkState) (others : List (List ℕ)) → so_far.others ≡ others → IsGathered others g → ¬ IsGathered [] g → HasEnded now so_far.lines → Breaks mid out' (answer_to_others others) → IsBrokenOff net from now out out'
    others-broken out' [] same gathered some ended breaks = absurd (some gathered)
    others-broken out' (line ∷ rest) same gathered some ended breaks = record {
      lines = so_far.lines;
      others = line ∷ rest;
      answers = so_far.answers;
      last = answer_to_others (line ∷ rest);
      is = (subst (λ (others : List (List ℕ)). AreAnswered net from now so_far.lines others so_far.answers) same so_far.answered, refl, ended);
      middle = mid;
      before = so_far.written;
      breaks = breaks;
    }

    -- the source has ended
    pub serving-ends : (out' : SinkState) (result : Result (Unit {0}) Refusal) → IsAtEnd now.left ⊎ (count ≡ 2 ^ 64 - 1) → IsPut (answer_to_others so_far.others) mid out' result → IfErr result (λ why. ¬ IsGathered [] g)
        → IsAnsweredAll net from now out out' result
    serving-ends out' (Ok done) ended put some = record {
      lines = so_far.lines;
      others = so_far.others;
      answers = so_far.answers;
      answered = so_far.answered;
      ended = ends-all ended;
      written = gains-more out mid out' (concat so_far.answers) (answer_to_others so_far.others) so_far.written put;
    }
    serving-ends out' (Err refusal.Unwritten) ended put some = others-broken out' so_far.others refl so_far.gathered some (ends-all ended) put
    serving-ends out' (Err _) ended put some = absurd put

    -- the source failed
    pub serving-cut : (to : SourceState) (why : Refusal) → IsUntaken now to why → IsAnsweredAll net from to out mid (Err why)
    serving-cut to (refusal.Unread Second) failed = record {
      lines = so_far.lines;
      others = so_far.others;
      answers = so_far.answers;
      before = now;
      answered = so_far.answered;
      failed = failed;
      written = so_far.written;
    }
    serving-cut to _ failed = absurd failed

-- why not all requests were answered, and how that is told
pub told : (net : Net) (from to : SourceState) (out out' err err' : SinkState) (why : Refusal) (status : Status) → IsAnsweredAll net from to out out' (Err why) → Refuses why err err' status → EndsServing net from to out out' err err' status
told net from to out out' err err' refusal.NoMemory status is (inl said) = inr (inr (inr (said.0, is.0, is.1, said.1)))
told net from to out out' err err' refusal.NoMemory status is (inr said) = absurd said.0
told net from to out out' err err' (refusal.Unread Second) status is (inl said) = inr (inl (said.0, is, said.1))
told net from to out out' err err' (refusal.Unread Second) status is (inr said) = absurd said.0
told net from to out out' err err' refusal.Unwritten status is (inl said) = inr (inr (inl (said.0, is, said.1)))
told net from to out out' err err' refusal.Unwritten status is (inr said) = absurd said.0
told net from to out out' err err' _ status is said = absurd is

files-known : (files : Files) (name text : List ℕ) → text_of files name ≡ Some text → IsSome files
files-known None name text e = absurd (cc)
files-known (Some known) name text e = refl

same-text : (o : Option (List ℕ)) (a b : List ℕ) → o ≡ Some a → o ≡ Some b → a ≡ b
same-text o a b e f = cc

risen : (before now : ℕ) → now ≡ one_more before → Rose before now
risen before now more = omega (arith, more)

module _ (net : List ℕ) (old new : Outside) (from to : SourceState) (status : Status) where
  -- the network was read, and is not refused
  never-refused : (network : Net) → IsIn old.shelf.files net NetworkText network → (text : List ℕ) → text_of old.shelf.files net ≡ Some text → ((other : Net) → ¬ Reads NetworkText text other) → ⊥
  never-refused network is text told none =
      none network (subst (λ (t : List ℕ). Reads NetworkText t network) (same-text (text_of old.shelf.files net) is.text text (is.told (files-known old.shelf.files net text told)) told) is.reads)

  module _ (network : Net) (is : IsIn old.shelf.files net NetworkText network) (same : new.shelf ≡ old.shelf) where
    served : status ≡ Done → IsServed network from to old.out new.out → new.err ≡ old.err → Serves net old new from to status
    served e whole err = record {
      done = λ d. (network, is, whole);
      usage = λ d. cc;
      rejected = λ d. cc;
      bad_input = λ d. absurd (cc);
      read_fault = λ d. absurd (cc);
      write_fault = λ d. absurd (cc);
      no_memory = λ d. absurd (cc);
      shelf = λ d. same;
      files = ap (λ (s : ShelfState). s.files) same;
      source = λ d. elim d [ inl a ↦ absurd (cc) | inr a ↦ absurd (cc) ];
      out = λ d. elim d [ inl a ↦ absurd (cc) | inr a ↦ absurd (cc) ];
      err = λ d. err;
      refused = λ text told none s. absurd (never-refused network is text told none);
      complete = λ text told n reads s a b. inl e;
    }

    cut-off : status ≡ ReadFault → IsCutOff network from to old.out new.out → Says (refusal.Unread Second) old.err new.err → Serves net old new from to status
    cut-off e cut says = record {
      done = λ d. absurd (cc);
      usage = λ d. cc;
      rejected = λ d. cc;
      bad_input = λ d. absurd (cc);
      read_fault = λ d. inr ((network, is, cut), says);
      write_fault = λ d. absurd (cc);
      no_memory = λ d. absurd (cc);
      shelf = λ d. same;
      files = ap (λ (s : ShelfState). s.files) same;
      source = λ d. elim d [ inl a ↦ absurd (cc) | inr a ↦ absurd (cc) ];
      out = λ d. elim d [ inl a ↦ absurd (cc) | inr a ↦ absurd (cc) ];
      err = λ d. absurd (cc);
      refused = λ text told none s. absurd (never-refused network is text told none);
      complete = λ text told n reads s a b. absurd (a (risen from.faults to.faults (cut.failed ∙ ap one_more (same-faults from cut.lines cut.before cut.answered.come))));
    }

    broken-off : status ≡ WriteFault → IsBrokenOff network from to old.out new.out → Says refusal.Unwritten old.err new.err → Serves net old new from to status
    broken-off e broken says = record {
      done = λ d. absurd (cc);
      usage = λ d. cc;
      rejected = λ d. cc;
      bad_input = λ d. absurd (cc);
      read_fault = λ d. absurd (cc);
      write_fault = λ d. ((network, is, broken), says);
      no_memory = λ d. absurd (cc);
      shelf = λ d. same;
      files = ap (λ (s : ShelfState). s.files) same;
      source = λ d. elim d [ inl a ↦ absurd (cc) | inr a ↦ absurd (cc) ];
      out = λ d. elim d [ inl a ↦ absurd (cc) | inr a ↦ absurd (cc) ];
      err = λ d. absurd (cc);
      refused = λ text told none s. absurd (never-refused network is text told none);
      complete = λ text told n reads s a b. absurd (b (risen old.out.faults new.out.faults (broken.breaks.faults ∙ ap (λ (s : SinkState). one_more s.faults) broken.before)));
    }

  -- memory ran out before a line came
  wants : new.shelf ≡ old.shelf → status ≡ NoMemory → to ≡ from → new.out ≡ old.out → Says refusal.NoMemory old.err new.err → Serves net old new from to status
  wants same e source out says = record {
    done = λ d. absurd (cc);
    usage = λ d. cc;
    rejected = λ d. cc;
    bad_input = λ d. absurd (cc);
    read_fault = λ d. absurd (cc);
    write_fault = λ d. absurd (cc);
    no_memory = λ d. says;
    shelf = λ d. same;
    files = ap (λ (s : ShelfState). s.files) same;
    source = λ d. source;
    out = λ d. out;
    err = λ d. absurd (cc);
    refused = λ text told none s. inr e;
    complete = λ text told n reads s a b. inr e;
  }

  pub serves : (network : Net) → IsIn old.shelf.files net NetworkText network → new.shelf ≡ old.shelf → EndsServing network from to old.out new.out old.err new.err status → Serves net old new from to status
  serves network is same ends = elim ends [
    | inl (e, done, err) ↦ served network is same e done err
    | inr (inl (e, cut, says)) ↦ cut-off network is same e cut says
    | inr (inr (inl (e, broken, says))) ↦ broken-off network is same e broken says
    | inr (inr (inr (e, source, out, says))) ↦ wants same e source out says
  ]

  -- the network is refused
  bad : (code : List ℕ) → new.shelf ≡ old.shelf → IsBad old.shelf.files code NetworkText net → status ≡ BadInput → to ≡ from → new.out ≡ old.out → Writes (bad_line First code) old.err new.err → Serves net old new from to status
  bad code same is e source out says = record {
    done = λ d. absurd (cc);
    usage = λ d. cc;
    rejected = λ d. cc;
    bad_input = λ d. (code, is, says);
    read_fault = λ d. absurd (cc);
    write_fault = λ d. absurd (cc);
    no_memory = λ d. absurd (cc);
    shelf = λ d. same;
    files = ap (λ (s : ShelfState). s.files) same;
    source = λ d. source;
    out = λ d. out;
    err = λ d. absurd (cc);
    refused = λ text told none s. inl e;
    complete = λ text told n reads s a b. absurd (is.unread n (subst (λ (t : List ℕ). Reads NetworkText t n) (same-text (text_of old.shelf.files net) text is.text told (is.told (files-known old.shelf.files net text told))) reads));
  }

  -- or can't be read
  unread : new.shelf.files ≡ old.shelf.files → GainsLast old.shelf.failed new.shelf.failed net → status ≡ ReadFault → to ≡ from → new.out ≡ old.out → Says (refusal.Unread First) old.err new.err → Serves net old new from to status
  unread files gains e source out says =
      let gained : new.shelf ≡ old.shelf → ⊥ = λ s. GainsLast-apart old.shelf.failed new.shelf.failed net gains (ap (λ (s : ShelfState). s.failed) (sym s)) in record {
        done = λ d. absurd (cc);
        usage = λ d. cc;
        rejected = λ d. cc;
        bad_input = λ d. absurd (cc);
        read_fault = λ d. inl (gains, source, out, says);
        write_fault = λ d. absurd (cc);
        no_memory = λ d. absurd (cc);
        shelf = λ d. absurd (d e);
        files = files;
        source = λ d. source;
        out = λ d. out;
        err = λ d. absurd (cc);
        refused = λ text told none s. absurd (gained s);
        complete = λ text told n reads s a b. absurd (gained s);
      }

  pub unserved : (why : Refusal) → StopsAt why First NetworkText net old.shelf new.shelf → to ≡ from → new.out ≡ old.out → Refuses why old.err new.err status → Serves net old new from to status
  unserved refusal.NoMemory stops source out (inl said) = wants stops said.0 source out said.1
  unserved refusal.NoMemory stops source out (inr said) = absurd said.0
  unserved (refusal.Unread First) stops source out (inl said) = unread stops.1 stops.2 said.0 source out said.1
  unserved (refusal.Unread First) stops source out (inr said) = absurd said.0
  unserved (refusal.Unread Second) stops source out said = absurd (cc)
  unserved (refusal.Unread Third) stops source out said = absurd (cc)
  unserved (refusal.Bad First code) stops source out (inl said) = bad code.items stops.1 stops.2 said.0 source out said.1
  unserved (refusal.Bad First code) stops source out (inr said) = wants stops.1 said.1 source out said.2
  unserved (refusal.Bad Second why) stops source out said = absurd (cc)
  unserved (refusal.Bad Third why) stops source out said = absurd (cc)
  unserved _ stops source out said = absurd stops
