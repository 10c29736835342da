-- What a signal shows at a second, by the rows of its timeline.
use Rattle.std.specs.Prelude.{ℕ, ◌+◌, nat_lt, ◌&&◌, Bool, false, if◌then◌else◌, List, [], ◌∷◌, Option, Some, None}
use Rattle.control_flow.specs.declared.greens.Green.{Green}
use Rattle.control_flow.specs.declared.greens.Sign.{Sign}
use Rattle.control_flow.specs.declared.greens.Sign.TheVariants as signs

-- the sign between a row and the next one, of the second phase here: a change from the phase of the row before, or dark where there
-- is none
abbrev pub change_from : Option ℕ → ℕ → Sign
change_from None j = signs.Dark
change_from (Some k) j = signs.Change k j

-- the sign of a second by the rows that follow a row of the phase `before`, if any, that ends by that second: on in the first row
-- that ends after the second, if that has begun, else the change to it; dark after the last row
abbrev pub sign_after : Option ℕ → List Green → ℕ → Sign
sign_after before [] second = signs.Dark
sign_after before (row ∷ rows) second =
    if nat_lt second row.from then change_from before row.phase
    else if nat_lt second row.to then signs.On row.phase row.from
    else sign_after (Some row.phase) rows second

-- what a signal with these rows shows at a second: the phase that is green and since when, or from which phase it changes to which,
-- or that it is dark, before the first row and after the last one
abbrev pub sign_at : List Green → ℕ → Sign
sign_at rows second = sign_after None rows second

-- the phase that is green under a sign, if one is, and since when
abbrev pub on_of : Sign → Option (ℕ × ℕ)
on_of (signs.On phase since) = Some (phase, since)
on_of (signs.Change from to) = None
on_of signs.Dark = None

-- whether what is green in some phases, `green k` where it is in phase k, is green under a sign: where one of these is on, and in a
-- change between two of them
abbrev pub is_on : (ℕ → Bool) → Sign → Bool
is_on green (signs.On phase since) = green phase
is_on green (signs.Change from to) = green from && green to
is_on green signs.Dark = false

-- whether what is green in some phases is green in second x under a sign, where it may have a walk: with one it is green in the first
-- seconds of a green alone, as many as its walk has, and in no change
abbrev pub is_on_in : (ℕ → Bool) → Option ℕ → ℕ → Sign → Bool
is_on_in green None x sign = is_on green sign
is_on_in green (Some walk) x (signs.On phase since) = green phase && nat_lt x (since + walk)
is_on_in green (Some walk) x (signs.Change from to) = false
is_on_in green (Some walk) x signs.Dark = false
