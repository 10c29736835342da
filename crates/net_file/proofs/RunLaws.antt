-- The table of a run, in which six keys may be absent.
use Rattle.std.proofs.Common.{◌≡◌, ℕ, ◌<◌, ◌≤◌, ◌^◌, Bool, true, false, codes, pos, List, [], ◌∷◌, Option, Some, None, IfSome, option_map, refl, sym, ap, subst, ◌∙◌, arith}
use Rattle.toml.specs.Data.{Data, Members, no_members, member, integer, table, depth, members_depth, get_member}
use Rattle.net_parts.specs.declared.drafts.Run.{Run}
use Rattle.net_tables.specs.Table.{field_of, has_only, only, number_at, number_if, flag_at, flag_if, optional_number_at, run_keys, run_of}
use Rattle.net_file.specs.Written.{IsDataOf, IsFilledWith, HasNumber, HasNumberIf, HasFlagIfTrue, flag_data, Always, run_in}
use Rattle.net_file.proofs.PhaseLaws.{field-fits}
use Rattle.net_file.proofs.PutLaws.{get-all, has-all, depth-all, or-none, with_all}

-- what is put of a number that may be absent
abbrev pub number_data : Option ℕ → Option Data
number_data = option_map (λ n. integer (pos n))

-- what such a number is read as
abbrev number_read : Option ℕ → Option ℕ
number_read = option_map (λ n. field_of (pos n))

read-number : (number : Option ℕ) → number_if (number_data number) ≡ Some (number_read number)
read-number None = refl
read-number (Some n) = refl

flat-number : (number : Option ℕ) → IfSome (number_data number) (λ d. depth d ≤ 0)
flat-number None = tt
flat-number (Some n) = omega arith

read-flag : (flag : Bool) → flag_if false (flag_data flag) ≡ Some flag
read-flag true = refl
read-flag false = refl

flat-flag : (flag : Bool) → IfSome (flag_data flag) (λ d. depth d ≤ 0)
flat-flag true = omega arith
flat-flag false = tt

module _ (step look gap rounds : ℕ) (split : Bool) (age hold recall act_step rate : Option ℕ) where
  -- the numbers that each run has
  abbrev run_numbers : Members
  run_numbers = member (codes "gap") (integer (pos gap)) (member (codes "look") (integer (pos look)) (member (codes "rounds") (integer (pos rounds)) (member (codes "step") (integer (pos step)) no_members)))

  -- what is put beside them, the last first
  abbrev run_options : List (List ℕ × Option Data)
  run_options =
      (codes "rate", number_data rate) ∷ (codes "act_step", number_data act_step) ∷ (codes "recall", number_data recall) ∷ (codes "hold", number_data hold) ∷ (codes "age", number_data age)
      ∷ (codes "split", flag_data split) ∷ []

  -- the members of a run, as they are put together
  abbrev pub run_members : Members
  run_members = with_all run_options run_numbers

  -- the run that they are read as
  abbrev run_read : Run
  run_read = record {
    step = field_of (pos step);
    look = field_of (pos look);
    gap = field_of (pos gap);
    rounds = field_of (pos rounds);
    split = split;
    age = number_read age;
    hold = number_read hold;
    recall = number_read recall;
    act_step = number_read act_step;
    rate = number_read rate;
  }

  -- that of any members with these values at its keys, and no other
  run-of : (ms : Members) → has_only run_keys ms ≡ true
      → get_member (codes "step") ms ≡ Some (integer (pos step)) → get_member (codes "look") ms ≡ Some (integer (pos look))
      → get_member (codes "gap") ms ≡ Some (integer (pos gap)) → get_member (codes "rounds") ms ≡ Some (integer (pos rounds)) → get_member (codes "split") ms ≡ flag_data split
      → get_member (codes "age") ms ≡ number_data age → get_member (codes "hold") ms ≡ number_data hold → get_member (codes "recall") ms ≡ number_data recall
      → get_member (codes "act_step") ms ≡ number_data act_step → get_member (codes "rate") ms ≡ number_data rate → run_of ms ≡ Some run_read
  unfolding run_of only number_at flag_at optional_number_at
  run-of ms own at_step at_look at_gap at_rounds at_split at_age at_hold at_recall at_act_step at_rate =
      rw (own, at_step, at_look, at_gap, at_rounds, at_split, read-flag split, at_age, read-number age, at_hold, read-number hold, at_recall, read-number recall, at_act_step, read-number act_step, at_rate, read-number rate) refl

  -- how they are read, whichever are absent
  run-read : IsDataOf run_in Always 1 (table run_members) run_read
  unfolding run_keys
  run-read = record {
    read = λ version says.
        run-of run_members (has-all run_keys run_options run_numbers refl refl)
        (get-all (codes "step") run_options run_numbers) (get-all (codes "look") run_options run_numbers)
        (get-all (codes "gap") run_options run_numbers) (get-all (codes "rounds") run_options run_numbers) (get-all (codes "split") run_options run_numbers ∙ or-none (flag_data split))
        (get-all (codes "age") run_options run_numbers ∙ or-none (number_data age)) (get-all (codes "hold") run_options run_numbers ∙ or-none (number_data hold)) (get-all (codes "recall") run_options run_numbers ∙ or-none (number_data recall))
        (get-all (codes "act_step") run_options run_numbers ∙ or-none (number_data act_step)) (get-all (codes "rate") run_options run_numbers ∙ or-none (number_data rate));
    depth =
        let flat : members_depth run_members ≤ 0 =
        depth-all run_options run_numbers (flat-number rate, (flat-number act_step, (flat-number recall, (flat-number hold, (flat-number age, (flat-flag split, omega arith)))))) (omega arith) in
        omega arith;
  }

-- a u32 that may be absent is read as itself
optional-fits : (number : Option ℕ) → IfSome number (λ n. n < 2 ^ 32) → option_map (λ n. field_of (pos n)) number ≡ number
optional-fits None h = refl
optional-fits (Some n) h = ap Some (field-fits n h)

pub run-filled : (run : Run) {m0 m1 m2 m3 m4 m5 m6 m7 m8 m9 m10 : Members} → HasNumber (codes "step") run.step m0 m1 → HasNumber (codes "look") run.look m1 m2 → HasNumber (codes "gap") run.gap m2 m3 → HasNumber (codes "rounds") run.rounds m3 m4
    → HasFlagIfTrue (codes "split") run.split m4 m5 → HasNumberIf (codes "age") run.age m5 m6 → HasNumberIf (codes "hold") run.hold m6 m7 → HasNumberIf (codes "recall") run.recall m7 m8
    → HasNumberIf (codes "act_step") run.act_step m8 m9 → HasNumberIf (codes "rate") run.rate m9 m10 → IsFilledWith run_in Always 1 run m0 m10
run-filled run {m10 = m10} step look gap rounds split age hold recall act_step rate empty =
    let is : m10 ≡ run_members run.step run.look run.gap run.rounds run.split run.age run.hold run.recall run.act_step run.rate = rw (rate.is, act_step.is, recall.is, hold.is, age.is, split, rounds.is, gap.is, look.is, step.is, empty) refl in
    let own = run-read run.step run.look run.gap run.rounds run.split run.age run.hold run.recall run.act_step run.rate in
    subst (λ ms. IsDataOf run_in Always 1 (table ms) run) (sym is) (record {
      read = λ version says. rw (own.read version says) (λ i. Some (record {
        step = field-fits run.step step.fits i;
        look = field-fits run.look look.fits i;
        gap = field-fits run.gap gap.fits i;
        rounds = field-fits run.rounds rounds.fits i;
        split = run.split;
        age = optional-fits run.age age.fits i;
        hold = optional-fits run.hold hold.fits i;
        recall = optional-fits run.recall recall.fits i;
        act_step = optional-fits run.act_step act_step.fits i;
        rate = optional-fits run.rate rate.fits i;
      }));
      depth = own.depth;
    })
