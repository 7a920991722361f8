-- The forms of the words after the program's name.
--
--   sim             reads a script, runs it, and writes the trace
--   sim --threads   the same, with a thread for each actor
--   run DIR         reads a script, runs it over the devices of a folder, and writes the trace
--   gen N           runs the script of the number N, and writes the summary
--   audit DIR       audits the remote tier of each partition in a folder, and writes what was found
--   sweep DIR       sweeps the remote tier of each partition in a folder, and writes how much went
--
-- N = "0" / nonzero-digit *digit, at most 4294967295
use Rattle.std.specs.Prelude.{ℕ, ◌==◌, ◌&&◌, bytes_eq, ◌^◌, nat_lt, not, if◌then◌else◌, Bool, true, false, List, []}
use Rattle.std.specs.Prelude.{◌∷◌, map, codes, string_bytes, String, Option, Some, None, option_map}
use Rattle.std.specs.Global.{Global}
use Rattle.std.specs.Char.{is_ascii_digit}
use Rattle.std.specs.List.{list_all}
use Rattle.std.specs.Str.Parse.{digits_value}
use Rattle.tiered_call.specs.declared.words.Form.{Form}
use Rattle.tiered_call.specs.declared.words.Form.TheVariants.{Sim, Threads, Run, Gen, Audit, Sweep}

-- there is a digit, and no leading zero
abbrev pub is_shortest : List ℕ → Bool
is_shortest [] = false
is_shortest (d ∷ []) = true
is_shortest (d ∷ e ∷ ds) = not (d == 48)

-- the word is N
abbrev pub is_number : List ℕ → Bool
is_number word = list_all is_ascii_digit word && is_shortest word && nat_lt (digits_value 10 word) (2 ^ 32)

-- the number that it spells
abbrev pub number_of : List ℕ → Option ℕ
number_of word = if is_number word then Some (digits_value 10 word) else None

-- the form of a few words; of a folder any word is the name
abbrev pub form_in : List (List ℕ) → Option Form
form_in (word ∷ []) = if bytes_eq word (codes "sim") then Some Sim else None
form_in (word ∷ second ∷ []) =
    if bytes_eq word (codes "sim") && bytes_eq second (codes "--threads")
    then Some Threads
    else if bytes_eq word (codes "run") then Some Run
    else if bytes_eq word (codes "audit") then Some Audit
    else if bytes_eq word (codes "sweep") then Some Sweep
    else if bytes_eq word (codes "gen") then option_map Gen (number_of second) else None
form_in other = None

-- the folder of a few words: the second one, or else the one in which the program runs
abbrev pub folder_in : List (List ℕ) → List ℕ
folder_in (word ∷ second ∷ more) = second
folder_in other = codes "."

-- the folder of the words
abbrev pub folder_of : List (String Global) → List ℕ
folder_of words = folder_in (map string_bytes words)

-- the form of the words
abbrev pub form_of : List (String Global) → Option Form
form_of words = form_in (map string_bytes words)
