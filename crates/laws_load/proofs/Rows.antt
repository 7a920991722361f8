-- The lines of each row of a turn.
use Rattle.std.proofs.Common.{◌≡◌, ◌∙◌, sym, ap, subst, refl, ℕ, zero, suc, ◌+◌, ◌*◌, ◌/◌, ◌%◌, ◌<◌, ◌≤◌, true, false, List, [], ◌∷◌, ◌++◌, arith, append_assoc, replicate}
use Rattle.std.specs.Prelude.{pos, codes, All, Some, None}
use Rattle.std.specs.List.{list_all}
use Rattle.std.specs.Fmt.{decimal, digits}
use Rattle.std.proofs.Math.Nat.{mod-lt}
use Rattle.std.proofs.lemmas.List.{length-replicate}
use Rattle.record_batch.specs.declared.rec.Rec.{Rec}
use Rattle.plain_log.specs.declared.command.Command.{Command}
use Rattle.plain_log.specs.declared.command.Command.TheVariants as command
use Rattle.plain_log.specs.declared.command.Order.{Order}
use Rattle.load_gen.specs.declared.row.Row.{Row}
use Rattle.load_gen.specs.declared.row.Row.TheVariants as row
use Rattle.load_gen.specs.Script as load
use Rattle.script_lang.specs.Lines.{lines_of, is_text_byte}
use Rattle.script_lang.specs.Limits.{size_of, fetches_of, limit_of, copies_of}
use Rattle.script_lang.specs.Script.{Told, lines_behind}
use Rattle.script_lang.specs.Spelling.{line_of, is_common, IsBroker, IsSpellable, IsRecord}
use Rattle.laws_load.proofs.Spelt.{run_is, run_text, run_bytes, text_then, number_text, four_text, four_then}
use Rattle.laws_load.proofs.Counted.{batch_short}
use Rattle.laws_load.proofs.Lines.{Under, resized, IsLoadOrder, order_goes}

-- lines that are read, so that so many commands, fetches and copies are left
abbrev pub Goes : Told → ℕ → List ℕ → List ℕ → ℕ → ℕ → Type 0
Goes t number text rest m f =
    (next : Told) × (n : ℕ) × (lines_behind t number (lines_of (text ++ rest)) ≡ lines_behind next n (lines_of rest)) × Under m f next

abbrev order : ℕ → Command → Order
order b c = record { broker = record { 0 = b }; command = c }

-- the four words of a line
abbrev words : ℕ → ℕ → ℕ → List ℕ → List ℕ
words a p b text = decimal a ++ 32 ∷ (decimal p ++ 32 ∷ (decimal b ++ 32 ∷ text))

own0 : (p : ℕ) → p < 4 → p ≡ 4 * p / 4
own0 zero low = refl
own0 (suc zero) low = refl
own0 (suc (suc zero)) low = refl
own0 (suc (suc (suc zero))) low = refl
own0 (suc (suc (suc (suc p)))) low = absurd (omega (arith, low))

own1 : (p : ℕ) → p < 4 → p ≡ (4 * p + 1) / 4
own1 zero low = refl
own1 (suc zero) low = refl
own1 (suc (suc zero)) low = refl
own1 (suc (suc (suc zero))) low = refl
own1 (suc (suc (suc (suc p)))) low = absurd (omega (arith, low))

own2 : (p : ℕ) → p < 4 → p ≡ (4 * p + 2) / 4
own2 zero low = refl
own2 (suc zero) low = refl
own2 (suc (suc zero)) low = refl
own2 (suc (suc (suc zero))) low = refl
own2 (suc (suc (suc (suc p)))) low = absurd (omega (arith, low))

own3 : (p : ℕ) → p < 4 → p ≡ (4 * p + 3) / 4
own3 zero low = refl
own3 (suc zero) low = refl
own3 (suc (suc zero)) low = refl
own3 (suc (suc (suc zero))) low = refl
own3 (suc (suc (suc (suc p)))) low = absurd (omega (arith, low))

-- a command to a broker
placed : (a p b e : ℕ) (c : Command) (text : List ℕ) → a ≤ 15 → p ≡ a / 4 → p < 4 → b ≤ 2 → is_common c ≡ false → IsSpellable c → line_of a p (order b c) ≡ words a p b text → list_all is_text_byte text ≡ true → size_of c ≤ 9325
    → limit_of c ≤ 4096 * fetches_of c → fetches_of c ≤ e → copies_of c ≤ e → IsLoadOrder a p (order b c) e
placed a p b e c text al own pl bl common spells line texts size limit fetches copies = record {
  actor_low = omega (arith, al);
  own = own;
  low = omega (arith, pl);
  broker = subst (λ t. IsBroker 3 t b) (sym common) (bl, omega (arith, bl));
  spellable = spells;
  text = rw line (four_text (decimal a) (decimal p) (decimal b) text (number_text a (omega (arith, al))) (number_text p (omega (arith, pl))) (number_text b (omega (arith, bl))) texts);
  size = size;
  limit = limit;
  fetches = fetches;
  copies = copies;
}

line_is : (a p b : ℕ) (text rest : List ℕ) (o : Order) → line_of a p o ≡ words a p b text → load.line a p b text ++ rest ≡ line_of a p o ++ 10 ∷ rest
unfolding load.line load.front
line_is a p b text rest o is = four_then (decimal a) (decimal p) (decimal b) text rest ∙ ap (λ (l : List ℕ). l ++ 10 ∷ rest) (sym is)

-- one line
one_goes : (t : Told) (number m f e a p b : ℕ) (c : Command) (text rest : List ℕ) → Under (m + 1) (f + e) t → line_of a p (order b c) ≡ words a p b text → IsLoadOrder a p (order b c) e
    → Goes t number (load.line a p b text) rest m f
one_goes t number m f e a p b c text rest u line is =
    let g = order_goes t number m f e a p (order b c) rest u is in
    (g.0, number + 1, ap (λ (l : List ℕ). lines_behind t number (lines_of l)) (line_is a p b text rest (order b c) line) ∙ g.1, g.2)

-- where a turn has one line
single : (t : Told) (number m f : ℕ) (text rest : List ℕ) → Goes t number text rest (m + 1) f → Goes t number text rest m f
single t number m f text rest g = (g.0, g.1, g.2, resized (m + 1) f m f g.0 (omega arith) (omega arith) g.3)

double : (t : Told) (number m f k h : ℕ) (front text rest : List ℕ) (g : Goes t number front (text ++ rest) k h) → Goes g.0 g.1 text rest m f → Goes t number (front ++ text) rest m f
double t number m f k h front text rest g last =
    (last.0, last.1, ap (λ (l : List ℕ). lines_behind t number (lines_of l)) (append_assoc front text rest) ∙ (g.2 ∙ last.2), last.3)

pub drawn_low : (k x : ℕ) → 0 < k → load.drawn k x < k
unfolding load.drawn
drawn_low k x some = mod-lt (x / 65536) some

-- an append's record
abbrev rec_of : ℕ → ℕ → ℕ → Rec
rec_of i n b = record { ts = pos i; key = None; value = Some (replicate n b); headers = [] }

append_text : (i n b : ℕ) → i < 20000 → b < 256 → list_all is_text_byte (codes "append " ++ decimal i ++ codes ",-,x" ++ load.hex_run n b) ≡ true
append_text i n b low byte =
    text_then (codes "append " ++ decimal i ++ codes ",-,x") (load.hex_run n b)
    (text_then (codes "append " ++ decimal i) (codes ",-,x") (text_then (codes "append ") (decimal i) refl (number_text i (omega (arith, low)))) refl) (run_text n b byte)

append_goes : (t : Told) (number m f i p n b : ℕ) (rest : List ℕ) → i < 20000 → p < 4 → n ≤ 200 → b < 256 → Under (m + 1) (f + 1) t
    → Goes t number (load.line (4 * p) p 0 (codes "append " ++ decimal i ++ codes ",-,x" ++ load.hex_run n b)) rest m f
append_goes t number m f i p n b rest low pl nl byte u =
    let line : line_of (4 * p) p (order 0 (command.Append (rec_of i n b ∷ []))) ≡ words (4 * p) p 0 (codes "append " ++ decimal i ++ codes ",-,x" ++ load.hex_run n b) =
    ap (λ (l : List ℕ). words (4 * p) p 0 (codes "append " ++ l)) (ap (λ (l : List ℕ). decimal i ++ (codes ",-,x" ++ l)) (run_is n b byte) ∙ sym (append_assoc (decimal i) (codes ",-,x") (load.hex_run n b))) in
    let long = length-replicate n b in
    let short = batch_short (pos i) (replicate n b) in
    one_goes t number m f 1 (4 * p) p 0 (command.Append (rec_of i n b ∷ [])) (codes "append " ++ decimal i ++ codes ",-,x" ++ load.hex_run n b) rest u line
    (placed (4 * p) p 0 1 (command.Append (rec_of i n b ∷ [])) (codes "append " ++ decimal i ++ codes ",-,x" ++ load.hex_run n b) (omega (arith, pl)) (own0 p pl) pl (omega arith) refl (omega arith, all) line (append_text i n b low byte)
    (omega (arith, long, short, nl)) (omega arith) (omega arith) (omega arith))
  where
    is : IsRecord (rec_of i n b)
    is = record { ts = omega (arith, low); key = tt; value = run_bytes n b byte; headers = λ k x le. absurd (omega (arith, le)) }

    all : All IsRecord (rec_of i n b ∷ [])
    all zero x le = is
    all (suc k) x le = absurd (omega (arith, le))

follow_limit : decimal 8192 ≡ codes "8192"
unfolding digits
follow_limit = refl

fetch_limit : decimal 4096 ≡ codes "4096"
unfolding digits
fetch_limit = refl

-- the lines of a row
pub rows_go : (r : Row) (t : Told) (number m f i p x : ℕ) (rest : List ℕ) → i < 20000 → p < 4 → Under (m + 2) (f + 1) t → Goes t number (load.lines_of r i p x) rest m f
unfolding load.lines_of
rows_go row.Append t number m f i p x rest low pl u =
    let d = drawn_low 200 x (omega arith) in
    single t number m f (load.line (4 * p) p 0 (codes "append " ++ decimal i ++ codes ",-,x" ++ load.hex_run (load.drawn 200 x + 1) (i % 256))) rest
    (append_goes t number (m + 1) f i p (load.drawn 200 x + 1) (i % 256) rest low pl (omega (arith, d)) (mod-lt i (omega arith)) (resized (m + 2) (f + 1) (m + 1 + 1) (f + 1) t (omega arith) (omega arith) u))
rows_go row.Follow t number m f i p x rest low pl u =
    let d = drawn_low 2 x (omega arith) in
    let line = ap (λ (l : List ℕ). words (4 * p + 1) p (load.drawn 2 x + 1) (codes "follow " ++ l)) follow_limit in
    single t number m f (load.line (4 * p + 1) p (load.drawn 2 x + 1) (codes "follow 8192")) rest
    (one_goes t number (m + 1) f 1 (4 * p + 1) p (load.drawn 2 x + 1) (command.Follow 8192) (codes "follow 8192") rest (resized (m + 2) (f + 1) (m + 1 + 1) (f + 1) t (omega arith) (omega arith) u) line
    (placed (4 * p + 1) p (load.drawn 2 x + 1) 1 (command.Follow 8192) (codes "follow 8192") (omega (arith, pl)) (own1 p pl) pl (omega (arith, d)) refl (omega arith) line refl (omega arith) (omega arith) (omega arith) (omega arith)))
rows_go row.Join t number m f i p x rest low pl u =
    let d = drawn_low 2 x (omega arith) in
    single t number m f (load.line (4 * p + 1) p (load.drawn 2 x + 1) (codes "join")) rest
    (one_goes t number (m + 1) f 1 (4 * p + 1) p (load.drawn 2 x + 1) command.Join (codes "join") rest (resized (m + 2) (f + 1) (m + 1 + 1) (f + 1) t (omega arith) (omega arith) u) refl
    (placed (4 * p + 1) p (load.drawn 2 x + 1) 1 command.Join (codes "join") (omega (arith, pl)) (own1 p pl) pl (omega (arith, d)) refl tt refl refl (omega arith) (omega arith) (omega arith) (omega arith)))
rows_go row.Flush t number m f i p x rest low pl u =
    let d = drawn_low 3 x (omega arith) in
    let g = one_goes t number (m + 1) (f + 1) 0 (4 * p + 1) p (load.drawn 3 x) command.Flush (codes "flush") (load.line (4 * p + 1) p (load.drawn 3 x) (codes "ack") ++ rest) (resized (m + 2) (f + 1) (m + 1 + 1) (f + 1 + 0) t (omega arith) (omega arith) u) refl
    (placed (4 * p + 1) p (load.drawn 3 x) 0 command.Flush (codes "flush") (omega (arith, pl)) (own1 p pl) pl (omega (arith, d)) refl tt refl refl (omega arith) (omega arith) (omega arith) (omega arith)) in
    double t number m f (m + 1) (f + 1) (load.line (4 * p + 1) p (load.drawn 3 x) (codes "flush")) (load.line (4 * p + 1) p (load.drawn 3 x) (codes "ack")) rest g
    (one_goes g.0 g.1 m f 1 (4 * p + 1) p (load.drawn 3 x) command.Ack (codes "ack") rest g.3 refl
    (placed (4 * p + 1) p (load.drawn 3 x) 1 command.Ack (codes "ack") (omega (arith, pl)) (own1 p pl) pl (omega (arith, d)) refl tt refl refl (omega arith) (omega arith) (omega arith) (omega arith)))
rows_go row.Copy t number m f i p x rest low pl u =
    single t number m f (load.line (4 * p + 2) p 0 (codes "copy")) rest
    (one_goes t number (m + 1) f 1 (4 * p + 2) p 0 command.Copy (codes "copy") rest (resized (m + 2) (f + 1) (m + 1 + 1) (f + 1) t (omega arith) (omega arith) u) refl
    (placed (4 * p + 2) p 0 1 command.Copy (codes "copy") (omega (arith, pl)) (own2 p pl) pl (omega arith) refl tt refl refl (omega arith) (omega arith) (omega arith) (omega arith)))
rows_go row.Trim t number m f i p x rest low pl u =
    let d = drawn_low 3 x (omega arith) in
    single t number m f (load.line (4 * p + 2) p (load.drawn 3 x) (codes "trim")) rest
    (one_goes t number (m + 1) f 1 (4 * p + 2) p (load.drawn 3 x) command.Trim (codes "trim") rest (resized (m + 2) (f + 1) (m + 1 + 1) (f + 1) t (omega arith) (omega arith) u) refl
    (placed (4 * p + 2) p (load.drawn 3 x) 1 command.Trim (codes "trim") (omega (arith, pl)) (own2 p pl) pl (omega (arith, d)) refl tt refl refl (omega arith) (omega arith) (omega arith) (omega arith)))
rows_go row.Expire t number m f i p x rest low pl u =
    single t number m f (load.line (4 * p + 3) p 0 (codes "expire")) rest
    (one_goes t number (m + 1) f 1 (4 * p + 3) p 0 command.Expire (codes "expire") rest (resized (m + 2) (f + 1) (m + 1 + 1) (f + 1) t (omega arith) (omega arith) u) refl
    (placed (4 * p + 3) p 0 1 command.Expire (codes "expire") (omega (arith, pl)) (own3 p pl) pl (omega arith) refl tt refl refl (omega arith) (omega arith) (omega arith) (omega arith)))
rows_go row.Fetch t number m f i p x rest low pl u =
    let d = drawn_low 1500 x (omega arith) in
    let line = ap (λ (l : List ℕ). words (4 * p) p 0 (codes "fetch " ++ decimal (load.drawn 1500 x) ++ 32 ∷ l)) fetch_limit in
    single t number m f (load.line (4 * p) p 0 (codes "fetch " ++ decimal (load.drawn 1500 x) ++ codes " 4096")) rest
    (one_goes t number (m + 1) f 1 (4 * p) p 0 (command.Fetch (load.drawn 1500 x) 4096) (codes "fetch " ++ decimal (load.drawn 1500 x) ++ codes " 4096") rest (resized (m + 2) (f + 1) (m + 1 + 1) (f + 1) t (omega arith) (omega arith) u) line
    (placed (4 * p) p 0 1 (command.Fetch (load.drawn 1500 x) 4096) (codes "fetch " ++ decimal (load.drawn 1500 x) ++ codes " 4096") (omega (arith, pl)) (own0 p pl) pl (omega arith) refl (omega (arith, d), omega arith) line
    (text_then (codes "fetch " ++ decimal (load.drawn 1500 x)) (codes " 4096") (text_then (codes "fetch ") (decimal (load.drawn 1500 x)) refl (number_text (load.drawn 1500 x) (omega (arith, d)))) refl)
    (omega arith) (omega arith) (omega arith) (omega arith)))
rows_go row.Clock t number m f i p x rest low pl u =
    let text : List ℕ = decimal (4 * p) ++ 32 ∷ (decimal p ++ (codes " - clock " ++ decimal i)) in
    let texts : list_all is_text_byte text ≡ true = text_then (decimal (4 * p)) (32 ∷ (decimal p ++ (codes " - clock " ++ decimal i))) (number_text (4 * p) (omega (arith, pl)))
    (text_then (decimal p) (codes " - clock " ++ decimal i) (number_text p (omega (arith, pl))) (text_then (codes " - clock ") (decimal i) refl (number_text i (omega (arith, low))))) in
    let g = order_goes t number (m + 1) f 1 (4 * p) p (order 0 (command.Clock (pos i))) rest (resized (m + 2) (f + 1) (m + 1 + 1) (f + 1) t (omega arith) (omega arith) u)
    (record { actor_low = omega (arith, pl); own = own0 p pl; low = omega (arith, pl); broker = refl; spellable = omega (arith, low); text = texts; size = omega arith; limit = omega arith; fetches = omega arith; copies = omega arith }) in
    (g.0, number + 1, ap (λ (l : List ℕ). lines_behind t number (lines_of l)) (clock_is (decimal (4 * p)) (decimal p) (decimal i)) ∙ g.1, resized (m + 1) f m f g.0 (omega arith) (omega arith) g.2)
  where
    clock_is : (a b c : List ℕ) → ((((a ++ 32 ∷ b) ++ codes " - clock ") ++ c) ++ 10 ∷ []) ++ rest ≡ (a ++ 32 ∷ (b ++ (codes " - clock " ++ c))) ++ 10 ∷ rest
    clock_is a b c = left ∙ sym right
      where
        left : ((((a ++ 32 ∷ b) ++ codes " - clock ") ++ c) ++ 10 ∷ []) ++ rest ≡ a ++ 32 ∷ (b ++ (codes " - clock " ++ (c ++ 10 ∷ rest)))
        left =
            append_assoc (((a ++ 32 ∷ b) ++ codes " - clock ") ++ c) (10 ∷ []) rest
            ∙ append_assoc ((a ++ 32 ∷ b) ++ codes " - clock ") c (10 ∷ rest)
            ∙ append_assoc (a ++ 32 ∷ b) (codes " - clock ") (c ++ 10 ∷ rest)
            ∙ append_assoc a (32 ∷ b) (codes " - clock " ++ (c ++ 10 ∷ rest))

        right : (a ++ 32 ∷ (b ++ (codes " - clock " ++ c))) ++ 10 ∷ rest ≡ a ++ 32 ∷ (b ++ (codes " - clock " ++ (c ++ 10 ∷ rest)))
        right =
            append_assoc a (32 ∷ (b ++ (codes " - clock " ++ c))) (10 ∷ rest)
            ∙ ap (λ (l : List ℕ). a ++ 32 ∷ l) (append_assoc b (codes " - clock " ++ c) (10 ∷ rest))
