-- What is kept of a line, piece after piece, and the line that they are.
use Rattle.std.proofs.Common.{◌≡◌, ◌≢◌, ℕ, ◌+◌, ◌-◌, ◌<◌, ◌≤◌, min, true, nat_lt, false, Result, Ok, Err, List, [], ◌++◌, Some, None, length, get_or, take, drop, refl, sym, ap, ◌∙◌, subst, arith, append_assoc, length-append, inl, inr}
use Rattle.std.specs.Prelude.{All, IsTrue, OnErr, is_ok}
use Rattle.std.specs.Io.BufRead.{ends_with_byte}
use Rattle.std.proofs.lemmas.List.{drop-drop, drop_all, get_or-take, length-drop, length-take, take-append-drop, take-append-le, take-take, take_all}
use Rattle.std.proofs.lemmas.List.Elements.{All-append, All-more, All-nil, All-take}
use Rattle.std.proofs.Math.Seq.{take-append-add, take-append_seam}
use Rattle.std.proofs.lemmas.Bool.{lt-ltb}
use Rattle.outside_world.specs.Keeping.{IsKept, IsPiece}
use Rattle.outside_world.specs.Source.{Comes, IsFront, IsLine, IsRead, SourceState}
use Rattle.outside_world.specs.declared.source.LineRead.{LineRead}
use Rattle.outside_world.specs.declared.source.LineRead.TheVariants.{End, Whole, Part}

-- what an `Err` says, where a result is one
pub fails-of : {T E : Type 0} (result : Result T E) (fact : Type 0) → is_ok result ≡ false → OnErr result fact → fact
fails-of (Ok value) fact failed says = absurd (cc)
fails-of (Err fault) fact failed says = says

-- a front of what came is one of what came and a piece more
still-front : (came piece : List ℕ) (least : ℕ) (kept : List ℕ) → IsFront came least kept → IsFront (came ++ piece) least kept
still-front came piece least kept is =
    let within : length kept ≤ length came = omega (arith, ap length is.front, length-take (length kept) came) in
    record { front = is.front ∙ sym (take-append-le (length kept) came piece within); long = is.long }

-- a front of a piece after all that came
pub front-of : (came piece kept : List ℕ) (count least : ℕ) → kept ≡ came ++ take count piece → least ≤ length kept → IsFront (came ++ piece) least kept
front-of came piece kept count least is long =
    let whole : came ++ piece ≡ kept ++ drop count piece = ap (λ (l : List ℕ). came ++ l) (sym (take-append-drop count piece)) ∙ sym (append_assoc came (take count piece) (drop count piece)) ∙ ap (λ (l : List ℕ). l ++ drop count piece) (sym is) in
    record { front = sym (ap (λ (l : List ℕ). take (length kept) l) whole ∙ take-append_seam kept (drop count piece)); long = long }

-- what is kept of a further piece, once a part alone is kept
pub part-more : (so_far : LineRead) (came piece : List ℕ) (least : ℕ) (kept : List ℕ) → so_far ≡ Part → IsKept so_far came least kept → IsFront (came ++ piece) least kept
part-more Part came piece least kept is so = still-front came piece least kept so
part-more End came piece least kept is so = absurd (cc)
part-more Whole came piece least kept is so = absurd (cc)

-- and where all that came is
pub kept-more : (so_far result : LineRead) (came piece : List ℕ) (least : ℕ) (kept new : List ℕ) → so_far ≢ Part → IsKept so_far came least kept → IsKept result (kept ++ piece) least new → IsKept result (came ++ piece) least new
kept-more End result came piece least kept new other so more = subst (λ (l : List ℕ). IsKept result (l ++ piece) least new) (so.1 ∙ sym so.0) more
kept-more Whole result came piece least kept new other so more = subst (λ (l : List ℕ). IsKept result (l ++ piece) least new) so more
kept-more Part result came piece least kept new other so more = absurd (other refl)

-- a piece is a line, where it is not empty
piece-line : (bytes : List ℕ) (count : ℕ) (piece : List ℕ) → piece ≡ take count bytes → 0 < count → IsPiece bytes count → IsLine piece
piece-line bytes count piece e some is =
    let long : length piece ≡ count = ap length e ∙ length-take count bytes ∙ omega (arith, is.within) in
    record {
      some = omega (arith, some, long);
      one = subst (λ (n : ℕ). All (λ byte. byte ≢ 10) (take (n - 1) piece)) (sym long)
          (subst (λ (l : List ℕ). All (λ byte. byte ≢ 10) l) (sym (ap (λ (l : List ℕ). take (count - 1) l) e ∙ take-take (count - 1) count bytes (omega arith))) is.one);
    }

-- it ends with a line feed, where the byte at its end is one
piece-ends : (bytes : List ℕ) (count : ℕ) (piece : List ℕ) → piece ≡ take count bytes → 0 < count → count ≤ length bytes → get_or bytes (count - 1) 0 ≡ 10 → IsTrue (ends_with_byte 10 piece)
piece-ends bytes count piece e some within at =
    let long : length piece ≡ count = ap length e ∙ length-take count bytes ∙ omega (arith, within) in
    let last : get_or piece (length piece - 1) 0 ≡ 10 = ap (λ (n : ℕ). get_or piece (n - 1) 0) long ∙ ap (λ (l : List ℕ). get_or l (count - 1) 0) e ∙ get_or-take count bytes (count - 1) 0 (omega arith) ∙ at in
    let first : nat_lt 0 (length piece) ≡ true = lt-ltb 0 (length piece) (omega (arith, long, some)) in
    rw (first, last) refl

-- what a source in memory gives, from the bytes that are left
module _ (bytes : List ℕ) (at count capacity most faults : ℕ) (piece kept : List ℕ) where
  came-of : at ≤ length bytes → IsPiece (drop at bytes) count → 0 < count → piece ≡ take count (drop at bytes)
      → Comes (record { left = Some (drop at bytes); faults = faults }) (record { left = Some (drop (at + count) bytes); faults = faults }) piece
  came-of within is some e = record {
    is = piece-line (drop at bytes) count piece e some is;
    left = ap Some (sym (ap (λ (l : List ℕ). l ++ drop (at + count) bytes) e ∙ ap (λ (l : List ℕ). take count (drop at bytes) ++ l) (sym (drop-drop count at bytes)) ∙ take-append-drop count (drop at bytes)));
    whole = elim is.whole [
      | inl ends ↦ inl (piece-ends (drop at bytes) count piece e some is.within ends.1)
      | inr all ↦ inr (sym (drop-drop count at bytes) ∙ drop_all count (drop at bytes) (omega (arith, all)))
    ];
    faults = refl;
  }

  pub in-memory : (read : LineRead) → at ≤ length bytes → IsPiece (drop at bytes) count → 0 < count → piece ≡ take count (drop at bytes) → IsKept read piece (min capacity most) kept
      → IsRead read (record { left = Some (drop at bytes); faults = faults }) (record { left = Some (drop (at + count) bytes); faults = faults }) capacity most kept
  in-memory End within is some e so = absurd (omega (arith, some, ap length e, ap length so.0, length-take count (drop at bytes), is.within))
  in-memory Whole within is some e so = subst (Comes _ _) (sym so) (came-of within is some e)
  in-memory Part within is some e so = (piece, came-of within is some e, so)

-- the same from a state that shows these bytes, which are read as slices
module _ (bytes : List ℕ) (at count capacity most faults : ℕ) (kept : List ℕ) (old : SourceState) (rest whole : List ℕ) (rest_is : rest ≡ bytes) (whole_is : whole ≡ bytes) where
  rest-of : take (length rest - at) (drop at rest) ≡ drop at bytes
  rest-of = take_all (length rest - at) (drop at rest) (omega (arith, length-drop at rest)) ∙ ap (λ (l : List ℕ). drop at l) rest_is

  piece-of : take (at + count - at) (drop at whole) ≡ take count (drop at bytes)
  piece-of = ap (λ (l : List ℕ). take (at + count - at) (drop at l)) whole_is ∙ ap (λ (n : ℕ). take n (drop at bytes)) (omega arith)

  pub in-slices : (read : LineRead) → old ≡ record { left = Some (drop at bytes); faults = faults } → at ≤ length bytes → (at ≡ length bytes → ⊥)
      → IsPiece (take (length rest - at) (drop at rest)) count → (0 < length (take (length rest - at) (drop at rest)) → 0 < count)
      → IsKept read (take (at + count - at) (drop at whole)) (min capacity most) kept
      → IsRead read old (record { left = Some (drop (at + count) bytes); faults = faults }) capacity most kept
  in-slices read shows within other is some so =
      let more : 0 < length (take (length rest - at) (drop at rest)) = omega (arith, ap length rest-of, length-drop at bytes, within, other) in
      subst (λ (s : SourceState). IsRead read s (record { left = Some (drop (at + count) bytes); faults = faults }) capacity most kept) (sym shows)
      (in-memory bytes at count capacity most faults (take (at + count - at) (drop at whole)) kept read within
      (subst (λ (l : List ℕ). IsPiece l count) rest-of is) (some more) piece-of so)

-- the bytes of a line of a stream that came so far, of which none is a line feed, and what is kept of them
pub record IsComing (read : LineRead) (least : ℕ) (line : List ℕ) : Type 0 where
  pub came : List ℕ
  pub kept : IsKept read came least line
  pub none : All (λ byte. byte ≢ 10) came
  pub some : read ≢ End → 0 < length came

pub nothing-came : (least : ℕ) (kept : List ℕ) → kept ≡ [] → IsComing End least kept
nothing-came least kept none = record { came = []; kept = (refl, none); none = All-nil (λ byte. byte ≢ 10); some = λ other. absurd (other refl) }

-- a line of a stream came, and this is kept of it
ended : (read : LineRead) (capacity most least old new : ℕ) (line kept : List ℕ) → least ≡ min capacity most → new ≡ old → IsKept read line least kept → IsLine line
    → IsRead read (record { left = None; faults = old }) (record { left = None; faults = new }) capacity most kept
ended End capacity most least old new line kept same faults so is = absurd (omega (arith, is.some, ap length so.0))
ended Whole capacity most least old new line kept same faults so is = subst (Comes _ _) (sym so) (record { is = is; left = refl; whole = inr tt; faults = faults })
ended Part capacity most least old new line kept same faults so is =
    (line, record { is = is; left = refl; whole = inr tt; faults = faults }, subst (λ (n : ℕ). IsFront line n kept) same so)

-- or the stream ended
pub stream-ended : (read : LineRead) (capacity most least old new : ℕ) (kept : List ℕ) → least ≡ min capacity most → new ≡ old → IsComing read least kept
    → IsRead read (record { left = None; faults = old }) (record { left = None; faults = new }) capacity most kept
stream-ended End capacity most least old new kept same faults so_far = (ap (λ (n : ℕ). record { left = None; faults = n }) faults, tt, so_far.kept.1)
stream-ended Whole capacity most least old new kept same faults so_far =
    ended Whole capacity most least old new so_far.came kept same faults so_far.kept
    (record { some = so_far.some (λ e. absurd (cc)); one = All-take (λ byte. byte ≢ 10) (length so_far.came - 1) so_far.came so_far.none })
stream-ended Part capacity most least old new kept same faults so_far =
    ended Part capacity most least old new so_far.came kept same faults so_far.kept
    (record { some = so_far.some (λ e. absurd (cc)); one = All-take (λ byte. byte ≢ 10) (length so_far.came - 1) so_far.came so_far.none })

module _ (least : ℕ) (bytes : List ℕ) (count : ℕ) (piece : List ℕ) (is : IsPiece bytes count) (e : piece ≡ take count bytes) (some : 0 < count) where
  long : length piece ≡ count
  long = ap length e ∙ length-take count bytes ∙ omega (arith, is.within)

  -- a piece that does not end with a line feed has none
  none-in : get_or piece (count - 1) 0 ≢ 10 → All (λ byte. byte ≢ 10) piece
  none-in other =
      let front : All (λ byte. byte ≢ 10) (take (count - 1) bytes) = is.one in
      let here : get_or bytes (count - 1) 0 ≢ 10 = λ at. other (ap (λ (l : List ℕ). get_or l (count - 1) 0) e ∙ get_or-take count bytes (count - 1) 0 (omega arith) ∙ at) in
      let all : All (λ byte. byte ≢ 10) (take (count - 1 + 1) bytes) = All-more (λ byte. byte ≢ 10) bytes (count - 1) 0 (omega (arith, is.within)) front here in
      let same : count - 1 + 1 ≡ count = omega arith in
      subst (λ (l : List ℕ). All (λ byte. byte ≢ 10) l) (ap (λ (n : ℕ). take n bytes) same ∙ sym e) all

  -- a further piece came, and the line goes on
  pub goes-on : (read next : LineRead) (kept new : List ℕ) (so_far : IsComing read least kept) → ((came : List ℕ) → IsKept read came least kept → IsKept next (came ++ piece) least new)
      → get_or piece (count - 1) 0 ≢ 10 → IsComing next least new
  goes-on read next kept new so_far more other = record {
    came = so_far.came ++ piece;
    kept = more so_far.came so_far.kept;
    none = All-append (λ byte. byte ≢ 10) so_far.came piece so_far.none (none-in other);
    some = λ is_some. omega (arith, length-append so_far.came piece, long, some);
  }

  -- or ends there
  one-line : (came : List ℕ) → All (λ byte. byte ≢ 10) came → IsLine (came ++ piece)
  one-line came none =
      let line = piece-line bytes count piece e some is in
      let before : length (came ++ piece) - 1 ≡ length came + (length piece - 1) = omega (arith, length-append came piece, long, some) in
      record {
        some = omega (arith, length-append came piece, long, some);
        one = subst (λ (l : List ℕ). All (λ byte. byte ≢ 10) l) (sym (ap (λ (n : ℕ). take n (came ++ piece)) before ∙ take-append-add came piece (length piece - 1)))
            (All-append (λ byte. byte ≢ 10) came (take (length piece - 1) piece) none line.one);
      }

  pub ends-here : (read next : LineRead) (capacity most old new : ℕ) (kept after : List ℕ) → least ≡ min capacity most → new ≡ old → IsComing read least kept
      → ((came : List ℕ) → IsKept read came least kept → IsKept next (came ++ piece) least after)
      → IsRead next (record { left = None; faults = old }) (record { left = None; faults = new }) capacity most after
  ends-here read next capacity most old new kept after same faults so_far more =
      ended next capacity most least old new (so_far.came ++ piece) after same faults (more so_far.came so_far.kept) (one-line so_far.came so_far.none)
