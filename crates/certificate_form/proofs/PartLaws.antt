-- A text that is written in parts.
use Rattle.std.proofs.Common.{◌≡◌, ℕ, ◌+◌, min, List, [], ◌++◌, length, take, drop, Option, Some, None, Result, Ok, Err, refl, sym, ap, subst, ◌∙◌, append_assoc, arith}
use Rattle.std.specs.Io.KnownBytes.{append_known}
use Rattle.std.specs.List.{flat_map}
use Rattle.std.specs.Prelude.{OnErr, OnOk, codes}
use Rattle.std.proofs.Math.Seq.{take-append-add}
use Rattle.std.proofs.lemmas.List.{append-nil, take-append-drop, take-append-le, take_min}
use Rattle.std.proofs.lemmas.List.Concat.{flat_map-append}
use Rattle.outside_world.specs.Sink.{Breaks, Gains, SinkState, one_more}
use Rattle.instance_form.specs.InstanceText.{instance_text}
use Rattle.schedule_meaning.specs.Instances.{Problem}
use Rattle.schedule_meaning.specs.declared.planners.Answer.{Answer}
use Rattle.dp_certificate.specs.Certificates.{Claim}
use Rattle.dp_certificate.specs.declared.Entry.{Entry}
use Rattle.certificate_form.specs.CertificateText.{answer_line, certificate_text, entry_line}
use Rattle.certificate_form.proofs.WritingLaws.{text_parts}

-- this much of a text is in the sink, and after it come what stands in the buffer and what is still to be made
pub record HasPut (whole buffer rest : List ℕ) (old now : SinkState) : Type 0 where
  pub sent : List ℕ
  pub gains : Gains old now sent
  pub is : whole ≡ sent ++ (buffer ++ rest)

known_nil : (known : Option (List ℕ)) → known ≡ append_known known []
known_nil None = refl
known_nil (Some bytes) = ap (λ (y : List ℕ). Some y) (sym (append-nil bytes))

known_twice : (known : Option (List ℕ)) (p q : List ℕ) → append_known (append_known known p) q ≡ append_known known (p ++ q)
known_twice None p q = refl
known_twice (Some bytes) p q = ap (λ (y : List ℕ). Some y) (append_assoc bytes p q)

gains_none : (s : SinkState) → Gains s s []
gains_none s = ap (λ (w : Option (List ℕ)). record { written = w; faults = s.faults }) (known_nil s.written)

gains_more : (a b c : SinkState) (p q : List ℕ) → Gains a b p → Gains b c q → Gains a c (p ++ q)
gains_more a b c p q first then =
    then
    ∙ ap (λ (s : SinkState). record { written = append_known s.written q; faults = s.faults }) first
    ∙ ap (λ (w : Option (List ℕ)). record { written = w; faults = a.faults }) (known_twice a.written p q)

-- a front of the second of three parts, after the first
take_front : (p q r : List ℕ) (count : ℕ) → take (length p + min count (length q)) (p ++ (q ++ r)) ≡ p ++ take count q
take_front p q r count =
    take-append-add p (q ++ r) (min count (length q))
    ∙ ap (λ (y : List ℕ). p ++ y) (take-append-le (min count (length q)) q r (omega arith) ∙ take_min count q)

-- what is broken off after a first part is broken off the whole
breaks_more : (a b c : SinkState) (p q r : List ℕ) → Gains a b p → Breaks b c q → Breaks a c (p ++ (q ++ r))
breaks_more a b c p q r first broken = record {
  faults = broken.faults ∙ ap (λ (s : SinkState). one_more s.faults) first;
  count = length p + min broken.count (length q);
  front = broken.front
      ∙ ap (λ (s : SinkState). append_known s.written (take broken.count q)) first
      ∙ known_twice a.written p (take broken.count q)
      ∙ ap (λ (y : List ℕ). append_known a.written y) (sym (take_front p q r broken.count));
}

module _ (whole buffer rest : List ℕ) (old now next : SinkState) where
  -- nothing is in the sink yet
  pub put_none : whole ≡ buffer ++ rest → HasPut whole buffer rest old old
  put_none is = record { sent = []; gains = gains_none old; is = is }

  spelled : (part more buffer' : List ℕ) (so : HasPut whole buffer rest old now) → rest ≡ part ++ more → buffer' ≡ buffer ++ part → whole ≡ so.sent ++ (buffer' ++ more)
  spelled part more buffer' so parts filled =
      so.is ∙ ap (λ (y : List ℕ). so.sent ++ y) (ap (λ (y : List ℕ). buffer ++ y) parts ∙ sym (append_assoc buffer part more) ∙ ap (λ (y : List ℕ). y ++ more) (sym filled))

  -- a part came after the buffer, which is in the sink now
  pub put_part : (part more buffer' emptied : List ℕ) → HasPut whole buffer rest old now → rest ≡ part ++ more → buffer' ≡ buffer ++ part → Gains now next buffer' → emptied ≡ [] → HasPut whole emptied more old next
  put_part part more buffer' emptied so parts filled gains empty = record {
    sent = so.sent ++ buffer';
    gains = gains_more old now next so.sent buffer' so.gains gains;
    is = spelled part more buffer' so parts filled ∙ sym (append_assoc so.sent buffer' more) ∙ ap (λ (y : List ℕ). (so.sent ++ buffer') ++ (y ++ more)) (sym empty);
  }

  -- or is not, and then a front of the whole is
  pub put_broken : (part more buffer' : List ℕ) → HasPut whole buffer rest old now → rest ≡ part ++ more → buffer' ≡ buffer ++ part → Breaks now next buffer' → Breaks old next whole
  put_broken part more buffer' so parts filled breaks =
      subst (λ (y : List ℕ). Breaks old next y) (sym (spelled part more buffer' so parts filled)) (breaks_more old now next so.sent buffer' more so.gains breaks)

  -- the last part is in the sink, and so is the whole
  pub put_whole : (last : List ℕ) → HasPut whole buffer rest old now → last ≡ buffer ++ rest → Gains now next last → Gains old next whole
  put_whole last so filled gains =
      subst (λ (y : List ℕ). Gains old next y) (ap (λ (y : List ℕ). so.sent ++ y) filled ∙ sym so.is) (gains_more old now next so.sent last so.gains gains)

  pub last_broken : (last : List ℕ) → HasPut whole buffer rest old now → last ≡ buffer ++ rest → Breaks now next last → Breaks old next whole
  last_broken last so filled breaks = put_broken rest [] last so (sym (append-nil rest)) filled breaks

-- the lines of entries are those of the first this many and of the others
pub lines_parted : (line : Entry → List ℕ) (n : ℕ) (entries part others : List Entry) (end : List ℕ) → part ≡ take n entries → others ≡ drop n entries → flat_map line entries ++ end ≡ flat_map line part ++ (flat_map line others ++ end)
lines_parted line n entries part others end front back =
    let parts : entries ≡ part ++ others = sym (take-append-drop n entries) ∙ ap (λ (es : List Entry). es ++ drop n entries) (sym front) ∙ ap (λ (es : List Entry). part ++ es) (sym back) in
    ap (λ (y : List ℕ). y ++ end) (ap (λ (es : List Entry). flat_map line es) parts ∙ flat_map-append line part others) ∙ append_assoc (flat_map line part) (flat_map line others) end

-- what a call ensures where it is well, and it is; and what follows where it is not
pub on_ok : {A E P : Type 0} (r : Result A E) (x : A) → r ≡ Ok x → OnOk r P → P
on_ok {P = P} r x is so = subst (λ o. OnOk o P) is so

pub on_ok_too : {A E P Q : Type 0} (r : Result A E) → (P → Q) → OnOk r P → OnOk r Q
on_ok_too (Ok x) f so = f so
on_ok_too (Err e) f so = tt

pub on_err : {A E P Q : Type 0} (r : Result A E) → (P → Q) → OnErr r P → OnErr r Q
on_err (Ok x) f so = tt
on_err (Err e) f so = f so

-- the text of a certificate, from what was written in front of its entries
pub text_is : (c : Claim) (p : Problem) (phases : ℕ) (answer : Answer) (entries : List Entry) (front text : List ℕ) → p ≡ c.problem → answer ≡ c.answer → entries ≡ c.entries → phases ≡ length c.problem.plan
    → front ≡ codes "certificate 1\n" ++ instance_text p.plan p.head p.lists → text ≡ front ++ answer_line answer → text ++ (flat_map (entry_line phases) entries ++ codes "end\n") ≡ certificate_text c
text_is c p phases answer entries front text ep ea ee en ef et =
    let d : Claim = record { problem = p; entries = entries; answer = answer } in
    let same : d ≡ c = λ i. record { problem = ep i; entries = ee i; answer = ea i } in
    let first = codes "certificate 1\n" ++ instance_text p.plan p.head p.lists in
    ap (λ (y : List ℕ). y ++ (flat_map (entry_line phases) entries ++ codes "end\n")) (et ∙ ap (λ (y : List ℕ). y ++ answer_line answer) ef)
    ∙ append_assoc first (answer_line answer) (flat_map (entry_line phases) entries ++ codes "end\n")
    ∙ ap (λ n. first ++ (answer_line answer ++ (flat_map (entry_line n) entries ++ codes "end\n"))) (en ∙ ap (λ (q : Problem). length q.plan) (sym ep))
    ∙ sym (text_parts d) ∙ ap certificate_text same
