-- All lines of a load are read.
use Rattle.std.proofs.Common.{◌≡◌, ◌∙◌, ap, refl, ℕ, zero, suc, ◌+◌, ◌*◌, ◌<◌, ◌≤◌, List, ◌∷◌, ◌++◌, arith}
use Rattle.std.specs.Prelude.{codes, pos, Ok}
use Rattle.load_gen.specs.Script as load
use Rattle.script_lang.specs.declared.form.Form.TheVariants.{Given}
use Rattle.script_lang.specs.declared.options.Options.{Options}
use Rattle.script_lang.specs.declared.options.OptionLine.TheVariants.{Brokers, Partitions, SegmentBytes, RetentionBytes, LocalRetentionBytes}
use Rattle.script_lang.specs.Words.{words_of, is_number, number_in, signed_in, number_first, only_number, only_signed}
use Rattle.script_lang.specs.Names.{lead_of}
use Rattle.script_lang.specs.Lines.{lines_of}
use Rattle.script_lang.specs.Script.{Told, nothing_told, options_with, form_behind, lines_behind, script_in, script_of, script_told}
use Rattle.laws_load.specs.Valid.{LoadsAreValid}
use Rattle.laws_load.proofs.Lines.{Under, resized, load_options, line_goes, idle_own}
use Rattle.laws_load.proofs.Rows.{Goes, rows_go, drawn_low}

-- the lines of a turn
turn_goes : (i x : ℕ) (t : Told) (number m f : ℕ) (rest : List ℕ) → i < 20000 → Under (m + 2) (f + 1) t → Goes t number (load.turn i x) rest m f
unfolding load.turn
turn_goes i x t number m f rest low u =
    rows_go (load.row_from x) t number m f i (load.drawn 4 (load.next x)) (load.next (load.picked x)) rest low (drawn_low 4 (load.next x) (omega arith)) u

turns_go : (n i x : ℕ) (t : Told) (number : ℕ) → i + n ≤ 20000 → Under (2 * n) n t → (s : Told) × (lines_behind t number (lines_of (load.turns n i x)) ≡ Ok s)
unfolding load.turns
turns_go zero i x t number le u = (t, refl)
turns_go (suc n) i x t number le u =
    let g = turn_goes i x t number (2 * n) n (load.turns n (suc i) (load.after_turn x)) (omega (arith, le)) (resized (2 * suc n) (suc n) (2 * n + 2) (n + 1) t (omega arith) (omega arith) u) in
    let h = turns_go n (suc i) (load.after_turn x) g.0 g.1 (omega (arith, le)) g.3 in
    (h.0, g.2 ∙ h.1)

-- the options
abbrev told : Options → Told
told options = record nothing_told { options = options }

abbrev o1 : Options
o1 = options_with nothing_told.options (Brokers 3)

abbrev o2 : Options
o2 = options_with o1 (Partitions 4)

abbrev o3 : Options
o3 = options_with o2 (SegmentBytes 4096)

abbrev o4 : Options
o4 = options_with o3 (RetentionBytes (pos 65536))

abbrev l5 : List ℕ → List ℕ
l5 rest = codes "local_retention_bytes 8192" ++ 10 ∷ rest

abbrev l4 : List ℕ → List ℕ
l4 rest = codes "retention_bytes 65536" ++ 10 ∷ l5 rest

abbrev l3 : List ℕ → List ℕ
l3 rest = codes "segment_bytes 4096" ++ 10 ∷ l4 rest

abbrev l2 : List ℕ → List ℕ
l2 rest = codes "partitions 4" ++ 10 ∷ l3 rest

options_go : (rest : List ℕ) → lines_behind nothing_told 1 (lines_of (load.options ++ rest)) ≡ lines_behind (told load_options) 6 (lines_of rest)
unfolding load.options words_of is_number number_in signed_in number_first only_number only_signed lead_of form_behind
options_go rest =
    line_goes nothing_told 1 (codes "brokers 3") (l2 rest) (Given (Brokers 3)) (told o1) refl refl refl
    ∙ line_goes (told o1) 2 (codes "partitions 4") (l3 rest) (Given (Partitions 4)) (told o2) refl refl refl
    ∙ line_goes (told o2) 3 (codes "segment_bytes 4096") (l4 rest) (Given (SegmentBytes 4096)) (told o3) refl refl refl
    ∙ line_goes (told o3) 4 (codes "retention_bytes 65536") (l5 rest) (Given (RetentionBytes (pos 65536))) (told o4) refl refl refl
    ∙ line_goes (told o4) 5 (codes "local_retention_bytes 8192") rest (Given (LocalRetentionBytes (pos 8192))) (told load_options) refl refl refl

begun : Under 40000 20000 (told load_options)
begun = record {
  options_are = refl;
  actors_are = λ a. idle_own 64 a;
  commands = omega arith;
  largest = omega arith;
  fetches = omega arith;
  limits = omega arith;
  copies = omega arith;
}

pub loads_valid : LoadsAreValid
unfolding load.script_of script_in
loads_valid number =
    let read = turns_go 20000 0 number (told load_options) 6 (omega arith) begun in
    (script_of read.0, ap script_told (options_go (load.turns 20000 0 number) ∙ read.1))
