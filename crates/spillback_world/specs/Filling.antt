-- How much of an amount fits.
use Rattle.std.specs.Prelude.{ℕ, zero, suc, ◌-◌, Bool, nat_le, if◌then◌else◌, List, slice_index}
use Rattle.std.specs.List.{list_all}
use Rattle.net_parts.specs.declared.roads.Turn.{Turn}
use Rattle.road_net.specs.Joins.{split_of}

-- the greatest number up to a wish of which this holds; 0 where it holds of none
abbrev pub greatest : (ℕ → Bool) → ℕ → ℕ
greatest fits zero = 0
greatest fits (suc n) = if fits (suc n) then suc n else greatest fits n

-- whether for each part of an amount that makes one of these turns there is room in its exit
abbrev pub has_room : List Turn → (ℕ → ℕ) → ℕ → Bool
has_room turns room amount = list_all (λ t. nat_le (split_of turns amount t.exit) (room t.exit)) turns

-- the greatest amount up to a wish for whose parts there is room
abbrev pub fitting : List Turn → (ℕ → ℕ) → ℕ → ℕ
fitting turns room wish = greatest (has_room turns room) wish

-- how much more a link can hold, by the storages of all links and what is on them
abbrev pub room_of : List ℕ → List ℕ → ℕ → ℕ
room_of store held link = slice_index store link - slice_index held link
