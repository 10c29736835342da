-- The lines of a certificate's text are ended by line feeds.
use Rattle.std.proofs.Common.{◌≡◌, ℕ, ◌^◌, ◌<◌, List, [], ◌∷◌, ◌++◌, length, map, take, refl, arith}
use Rattle.std.specs.Prelude.{codes}
use Rattle.std.specs.Fmt.{decimal}
use Rattle.std.specs.List.{flat_map, join_with_byte, AllByRecursion}
use Rattle.std.proofs.lemmas.List.Elements.{All-weaker, All-take, All-append, All-from_recursion, recursion_from_All}
use Rattle.text_lines.specs.Lines.{line_feeds}
use Rattle.text_lines.proofs.Feeds.{IsTextLine, feeds_in_numbers, feeds_in_lines}
use Rattle.schedule_meaning.specs.declared.planners.Answer.{Answer}
use Rattle.schedule_meaning.specs.declared.planners.Answer.TheVariants.{Plan, NoPlan}
use Rattle.certificate_form.specs.CertificateText.{answer_line, entry_line, IsWritableAnswer, IsWritableEntry}
use Rattle.dp_certificate.specs.declared.Entry.{Entry}

-- ---- each line is one

pub opening_is_line : IsTextLine (codes "certificate 1\n")
unfolding line_feeds
opening_is_line = record { body = codes "certificate 1"; no_feed = refl; ended = refl }

no_feed_answer : line_feeds (codes "answer") ≡ 0
unfolding line_feeds
no_feed_answer = refl

no_feed_none : line_feeds (codes "answer none") ≡ 0
unfolding line_feeds
no_feed_none = refl

no_feed_entry : line_feeds (codes "entry") ≡ 0
unfolding line_feeds
no_feed_entry = refl

pub answer_is_line : (a : Answer) → IsWritableAnswer a → IsTextLine (answer_line a)
answer_is_line NoPlan fits = record { body = codes "answer none"; no_feed = no_feed_none; ended = refl }
answer_is_line (Plan ks delay) fits =
    let wide = recursion_from_All (λ n. n < 2 ^ 64) ks (All-weaker (λ n. n < 2 ^ 8) (λ n. n < 2 ^ 64) (λ n lt. omega arith) ks fits.0) in
    record { body = join_with_byte 32 (codes "answer" ∷ map decimal (delay ∷ ks)); no_feed = feeds_in_numbers (codes "answer") (delay ∷ ks) no_feed_answer (fits.1, wide); ended = refl }

pub entry_is_line : (phases : ℕ) (e : Entry) → IsWritableEntry phases e → IsTextLine (entry_line phases e)
entry_is_line phases e fits =
    let a = fits.phase in let b = fits.since in let c = fits.at in
    let head = e.phase ∷ e.since ∷ e.at ∷ e.delay ∷ [] in
    let numbers = take phases e.counts ++ head in
    let counts = All-take (λ n. n < 2 ^ 64) phases e.counts (All-weaker (λ n. n < 2 ^ 8) (λ n. n < 2 ^ 64) (λ n lt. omega arith) e.counts fits.counts) in
    let all = All-append (λ n. n < 2 ^ 64) (take phases e.counts) head counts (All-from_recursion (λ n. n < 2 ^ 64) head (omega arith, (omega arith, (omega arith, (fits.delay, tt))))) in
    record { body = join_with_byte 32 (codes "entry" ∷ map decimal numbers); no_feed = feeds_in_numbers (codes "entry") numbers no_feed_entry (recursion_from_All (λ n. n < 2 ^ 64) numbers all); ended = refl }

pub feeds_in_entries : (phases : ℕ) (es : List Entry) → AllByRecursion (IsWritableEntry phases) es → line_feeds (flat_map (entry_line phases) es) ≡ length es
feeds_in_entries phases es fits = feeds_in_lines (entry_line phases) (IsWritableEntry phases) (entry_is_line phases) es fits
