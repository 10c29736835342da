-- Words are those of one command at most.
use Rattle.std.proofs.Common.{rules, ◌≡◌, ℕ, List, [], ◌∷◌, true, sym, ap, ◌∙◌, arith}
use Rattle.std.proofs.lemmas.Bool.{false≢true}
use Rattle.std.proofs.lemmas.Fmt.{decimal_injective}
use Rattle.std.specs.Str.{bytes_eq}
use Rattle.command_words.specs.Calls.{Actuate, Audit, Bounds, BoundsFixed, Call, IsCall, Certify, CertifyBound, CertifyPar, Check, Compare, CompareFixed, Decide, DecideNode, Fixed, Grid, Instance, Net, Plan, Queues, Replay, Scale, Spill, SpillActuated, Totals, Turns, Upgrade, words_of}

-- the first word
first : List (List ℕ) → List ℕ
first [] = []
first (word ∷ words) = word

-- bytes are the same as themselves
bytes_same : (bs : List ℕ) → bytes_eq bs bs ≡ true
bytes_same bs = search rules

-- the first words of two commands with the same words are the same
same_word : (words : List (List ℕ)) (a b : Call) → IsCall words a → IsCall words b → bytes_eq (first (words_of a)) (first (words_of b)) ≡ true
same_word words a b is other =
    let same : first (words_of a) ≡ first (words_of b) = ap first (sym is.words_are ∙ other.words_are) in
    rw same (bytes_same (first (words_of b)))

-- of two commands with the same words both are the same
pub one_call : (words : List (List ℕ)) (a b : Call) → IsCall words a → IsCall words b → a ≡ b
unfolding first
one_call words (Plan f) (Plan g) is other = let e = is.words_are in let d = other.words_are in cc
one_call words (Certify f) (Certify g) is other = let e = is.words_are in let d = other.words_are in cc
one_call words (CertifyBound f) (CertifyBound g) is other = let e = is.words_are in let d = other.words_are in cc
one_call words (CertifyPar f w) (CertifyPar g v) is other =
    let e = is.words_are in
    let d = other.words_are in
    let width : w ≡ v = decimal_injective w v (omega (arith, is.within.1)) (omega (arith, other.within.1)) (cc) in
    cc
one_call words (Check f) (Check g) is other = let e = is.words_are in let d = other.words_are in cc
one_call words (Turns n a) (Turns m b) is other = let e = is.words_are in let d = other.words_are in cc
one_call words (Totals n a) (Totals m b) is other = let e = is.words_are in let d = other.words_are in cc
one_call words (Replay n a h) (Replay m b i) is other = let e = is.words_are in let d = other.words_are in cc
one_call words (Net n a) (Net m b) is other = let e = is.words_are in let d = other.words_are in cc
one_call words (Instance n a h k r) (Instance m b i l q) is other =
    let e = is.words_are in
    let d = other.words_are in
    let round : r ≡ q = decimal_injective r q (omega (arith, is.within)) (omega (arith, other.within)) (cc) in
    cc
one_call words (Actuate n a) (Actuate m b) is other = let e = is.words_are in let d = other.words_are in cc
one_call words (Fixed n a p) (Fixed m b q) is other = let e = is.words_are in let d = other.words_are in cc
one_call words (Compare n a) (Compare m b) is other = let e = is.words_are in let d = other.words_are in cc
one_call words (Compare n a) (CompareFixed m b q) is other = let e = is.words_are in let d = other.words_are in absurd (cc)
one_call words (CompareFixed n a p) (Compare m b) is other = let e = is.words_are in let d = other.words_are in absurd (cc)
one_call words (CompareFixed n a p) (CompareFixed m b q) is other = let e = is.words_are in let d = other.words_are in cc
one_call words (Scale n a f l s) (Scale m b g k t) is other =
    let e = is.words_are in
    let d = other.words_are in
    let first : f ≡ g = decimal_injective f g (omega (arith, is.within.ordered, is.within.most)) (omega (arith, other.within.ordered, other.within.most)) (cc) in
    let last : l ≡ k = decimal_injective l k (omega (arith, is.within.most)) (omega (arith, other.within.most)) (cc) in
    let step : s ≡ t = decimal_injective s t (omega (arith, is.within.bits)) (omega (arith, other.within.bits)) (cc) in
    cc
one_call words (Spill n a r) (Spill m b q) is other = let e = is.words_are in let d = other.words_are in cc
one_call words (Spill n a r) (SpillActuated m b q) is other = let e = is.words_are in let d = other.words_are in absurd (cc)
one_call words (SpillActuated n a r) (Spill m b q) is other = let e = is.words_are in let d = other.words_are in absurd (cc)
one_call words (SpillActuated n a r) (SpillActuated m b q) is other = let e = is.words_are in let d = other.words_are in cc
one_call words (Decide n s) (Decide m t) is other = let e = is.words_are in let d = other.words_are in cc
one_call words (Decide n s) (DecideNode m t k) is other = let e = is.words_are in let d = other.words_are in absurd (cc)
one_call words (DecideNode n s k) (Decide m t) is other = let e = is.words_are in let d = other.words_are in absurd (cc)
one_call words (DecideNode n s k) (DecideNode m t l) is other = let e = is.words_are in let d = other.words_are in cc
one_call words (Audit n a r) (Audit m b q) is other = let e = is.words_are in let d = other.words_are in cc
one_call words (Queues n a r) (Queues m b q) is other = let e = is.words_are in let d = other.words_are in cc
one_call words (Grid n s r) (Grid m t q) is other =
    let e = is.words_are in
    let d = other.words_are in
    let number : n ≡ m = decimal_injective n m is.within.0 other.within.0 (cc) in
    let side : s ≡ t = decimal_injective s t (omega (arith, is.within.1.most)) (omega (arith, other.within.1.most)) (cc) in
    let rounds : r ≡ q = decimal_injective r q (omega (arith, is.within.2.most)) (omega (arith, other.within.2.most)) (cc) in
    cc
one_call words (Upgrade n) (Upgrade m) is other = let e = is.words_are in let d = other.words_are in cc
one_call words (Bounds n) (Bounds m) is other = let e = is.words_are in let d = other.words_are in cc
one_call words (Bounds n) (BoundsFixed m q) is other = let e = is.words_are in let d = other.words_are in absurd (cc)
one_call words (BoundsFixed n p) (Bounds m) is other = let e = is.words_are in let d = other.words_are in absurd (cc)
one_call words (BoundsFixed n p) (BoundsFixed m q) is other = let e = is.words_are in let d = other.words_are in cc
one_call words a b is other = absurd (false≢true (same_word words a b is other))
