-- The records of a text.
use Rattle.std.proofs.Common.{◌≡◌, ℕ, zero, suc, ◌+◌, ◌≤◌, List, [], ◌∷◌, ◌++◌, length, map, if◌then◌else◌, Option, Some, None, All, refl, sym, ap, ◌∙◌, arith, length-append}
use Rattle.std.proofs.lemmas.Bool.{cond_both}
use Rattle.std.proofs.lemmas.List.Elements.{All-tail}
use Rattle.std.specs.List.{flat_map}
use Rattle.csv.specs.Machine.{Read, next_record}
use Rattle.csv.specs.Reading.{default_config, is_bom, records_from, records_next, strip_bom}
use Rattle.csv.specs.Writing.{default_writer, fields_text, is_blank, read_back, row_body, row_text}
use Rattle.csv.specs.declared.parser.Config.{Config}
use Rattle.csv.specs.declared.parser.State.{State}
use Rattle.csv.specs.declared.parser.State.TheVariants as st
use Rattle.csv.proofs.RoundTrip.{read-write}
use Rattle.record_text.specs.Records.{records_of}
use Rattle.world_records.specs.Records.{header}

few-next : (n : ℕ) (more : State → List ℕ → List (List (List ℕ))) → ((t : State) (rest : List ℕ) → length (more t rest) ≤ n) → (o : Option Read) → length (records_next more o) ≤ suc n
few-next n more few None = omega arith
few-next n more few (Some p) = let f = few p.1 p.2 in omega (arith, f)

few-from : (cfg : Config) (n : ℕ) (s : State) (bytes : List ℕ) → length (records_from cfg n s bytes) ≤ n
unfolding records_from
few-from cfg zero s bytes = omega arith
few-from cfg (suc n) s bytes = few-next n (records_from cfg n) (λ t rest. few-from cfg n t rest) (next_record cfg s [] [] bytes)

short : (bytes : List ℕ) → length (strip_bom bytes) ≤ length bytes
unfolding strip_bom
short [] = omega arith
short (a ∷ []) = omega arith
short (a ∷ b ∷ []) = omega arith
short (a ∷ b ∷ c ∷ rest) = cond_both (is_bom a b c) rest (a ∷ b ∷ c ∷ rest) (λ l. length l ≤ length (a ∷ b ∷ c ∷ rest)) (λ e. omega arith) (λ e. omega arith)

-- a text has no more records than bytes, and one
pub few-records : (bytes : List ℕ) → length (records_of bytes) ≤ length bytes + 1
few-records bytes = omega (arith, few-from default_config (length (strip_bom bytes) + 1) st.StartRecord (strip_bom bytes), short bytes)

-- records that were written are read again, where each has a field
read-all : (n : ℕ) (rows : List (List (List ℕ))) → length rows ≤ n → records_from default_config n st.StartRecord (flat_map (row_text default_writer) rows) ≡ map read_back rows
unfolding records_from next_record
read-all zero [] few = refl
read-all zero (row ∷ rows) few = absurd (omega arith)
read-all (suc n) [] few = refl
read-all (suc n) (row ∷ rows) few = rw (read-write row (flat_map (row_text default_writer) rows)) (ap (λ (t : List (List (List ℕ))). read_back row ∷ t) (read-all n rows (omega arith)))

row-long : (row : List (List ℕ)) → 1 ≤ length (row_text default_writer row)
row-long row =
    let blank : List ℕ = if is_blank default_writer row then 34 ∷ 34 ∷ [] else [] in
    let end = length-append (row_body default_writer row) (blank ++ 10 ∷ []) in
    omega (arith, end, length-append blank (10 ∷ []))

long : (rows : List (List (List ℕ))) → length rows ≤ length (flat_map (row_text default_writer) rows)
long [] = omega arith
long (row ∷ rows) = omega (arith, row-long row, long rows, length-append (row_text default_writer row) (flat_map (row_text default_writer) rows))

-- a record with a field
abbrev pub HasField : List (List ℕ) → Type 0
HasField row = 1 ≤ length row

as-written : (rows : List (List (List ℕ))) → All HasField rows → map read_back rows ≡ rows
as-written [] some = refl
as-written ([] ∷ rows) some = let none = some 0 [] (omega arith) in absurd (omega (arith, none))
as-written ((x ∷ xs) ∷ rows) some = ap (λ (t : List (List (List ℕ))). (x ∷ xs) ∷ t) (as-written rows (All-tail HasField (x ∷ xs) rows some))

no-mark : (rest : List ℕ) → strip_bom (107 ∷ rest) ≡ 107 ∷ rest
unfolding strip_bom
no-mark [] = refl
no-mark (b ∷ []) = refl
no-mark (b ∷ c ∷ rest) = refl

-- the text of records that begins with the letter k
pub read-records : (rows : List (List (List ℕ))) (rest : List ℕ) → flat_map (row_text default_writer) rows ≡ 107 ∷ rest → All HasField rows → records_of (flat_map (row_text default_writer) rows) ≡ rows
read-records rows rest begins some =
    let plain : strip_bom (flat_map (row_text default_writer) rows) ≡ flat_map (row_text default_writer) rows = ap strip_bom begins ∙ no-mark rest ∙ sym begins in
    ap (λ l. records_from default_config (length l + 1) st.StartRecord l) plain
    ∙ read-all (length (flat_map (row_text default_writer) rows) + 1) rows (omega (arith, long rows)) ∙ as-written rows some

-- the header is written first
pub header-first : (rows : List (List (List ℕ))) → (rest : List ℕ) × (flat_map (row_text default_writer) (header ∷ rows) ≡ 107 ∷ rest)
unfolding is_blank fields_text
header-first rows = (_, refl)
