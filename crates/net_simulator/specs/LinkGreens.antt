-- When links are green, second by second, by what the nodes show.
use Rattle.std.specs.Prelude.{ℕ, zero, suc, ◌-◌, ◌^◌, min, Bool, false, if◌then◌else◌, List, Option, Some, None, is_some}
use Rattle.std.specs.List.{list_any}
use Rattle.control_flow.specs.Signs.{is_on_in}
use Rattle.control_flow.specs.declared.greens.Sign.{Sign}
use Rattle.control_flow.specs.declared.greens.Sign.TheVariants.{Change, Dark, On}
use Rattle.net_parts.specs.Numbers.{Net}
use Rattle.net_parts.specs.Outline.{is_green_in, link_at, walk_at}
use Rattle.phase_plan.specs.Phases.{phase_at}
use Rattle.phase_plan.specs.declared.Phase.{Phase}
use Rattle.net_simulator.specs.Discharging.{begun}

-- whether a link is green in second x, where the node at its end shows this sign then
abbrev pub is_lit : Net → ℕ → ℕ → Sign → Bool
is_lit net l x sign = is_on_in (is_green_in net l) (walk_at net l) x sign

-- whether link l, which ends at this node, is green in second x, where `shown x node` is the sign of a node in second x; one that ends at no
-- node never is
abbrev pub is_green_to : Net → (ℕ → ℕ → Sign) → ℕ → ℕ → Option ℕ → Bool
is_green_to net shown l x None = false
is_green_to net shown l x (Some node) = is_lit net l x (shown x node)

-- whether link l is green in second x
abbrev pub is_green : Net → (ℕ → ℕ → Sign) → ℕ → ℕ → Bool
is_green net shown l x = is_green_to net shown l x (link_at net l).to

-- whether some link of a network has a walk
abbrev pub has_walks : Net → Bool
has_walks net = list_any (λ link. is_some link.walk) net.links

-- the seconds that a green loses under a sign: those of the phase that is on, or from which a change leads
abbrev pub loss_of : List Phase → Sign → ℕ
loss_of plan (On phase since) = (phase_at plan phase).loss
loss_of plan (Change from to) = (phase_at plan from).loss
loss_of plan Dark = 0

-- the second that stands where a link is not green: none of a run
abbrev pub never : ℕ
never = 2 ^ 32 - 1

-- the second in which the green began that a link had in the last of the first n seconds; `never` where it had none
abbrev pub lit_since : (ℕ → Bool) → ℕ → ℕ
lit_since on zero = never
lit_since on (suc x) = if on x then begun on x else never

-- the same of a link with one second more, second x, in which its node shows this sign
abbrev pub lit_on : Net → ℕ → ℕ → Sign → ℕ → ℕ
lit_on net l x sign since = if is_lit net l x sign then min since x else never

-- the sign of a node in the last of the first n seconds, dark before the first
abbrev pub last_sign : (ℕ → ℕ → Sign) → ℕ → ℕ → Sign
last_sign shown zero node = Dark
last_sign shown (suc x) node = shown x node
