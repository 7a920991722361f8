-- What is cut out of bytes of a segment, from where its index says: batches of it from an offset on.
use Rattle.std.proofs.Common.{◌≡◌, ◌∙◌, sym, ap, subst, refl, ℕ, ◌+◌, ◌-◌, ◌<◌, ◌≤◌, min, Bool, true, false, cond, nat_lt, List, [], ◌∷◌, ◌++◌, length, take, drop, Option, Some, None, Result, Ok, Err, IsOk, arith, append_assoc, length-append}
use Rattle.std.specs.Prelude.{slice_range}
use Rattle.std.specs.List.{AllByRecursion}
use Rattle.std.proofs.lemmas.Bool.{ltb-true}
use Rattle.std.proofs.lemmas.Bool.Decides.{nat_tests}
use Rattle.std.proofs.lemmas.List.{take-append-drop}
use Rattle.log_terms.specs.Batch.{last_of}
use Rattle.log_terms.specs.Log.{IsConsecutive, joined, from_offset, end_from, end_of}
use Rattle.log_terms.proofs.Logs.{end_append}
use Rattle.record_batch.specs.declared.head.Head.{Head}
use Rattle.record_batch.specs.declared.refusal.HeadRefusal.{HeadRefusal}
use Rattle.record_batch.specs.Head.{head_of}
use Rattle.record_batch.specs.Check.{checked, head_refusal, headed, first as first_of}
use Rattle.record_batch.proofs.Passing.{head_long, checked_long}
use Rattle.sparse_index.specs.Offsets.{find}
use Rattle.segment_file.specs.declared.taking.Cutout.{Cutout}
use Rattle.segment_file.specs.Walk.{size_in}
use Rattle.segment_file.specs.Run.{end_after, AreBatches, would_pass, IsRunCutAt}
use Rattle.segment_file.specs.Index.{placed_from, index_of}
use Rattle.segment_file.specs.Segment.{IsSegment}
use Rattle.segment_file.proofs.Finding.{head_kept, head_sized, size_kept}
use Rattle.segment_file.proofs.Joining.{all_parts, parts_same, consecutive_parts}
use Rattle.segment_file.proofs.Placing.{placed_parts}
use Rattle.segment_file.proofs.Runs.{joined_append}
use Rattle.segment_file.proofs.Searching.{search_begins}
use Rattle.segment_file.proofs.Tracking.{head_read, placed_laid}
use Rattle.laws_partition.specs.Log.{WouldPass}
use Rattle.tier_safe.proofs.Runs.{from_back}

-- bytes

take_front : {A : Type 0} (xs ys : List A) → take (length xs) (xs ++ ys) ≡ xs
take_front [] ys = refl
take_front (x ∷ xs) ys = ap (λ zs. x ∷ zs) (take_front xs ys)

drop_front : {A : Type 0} (xs ys : List A) → drop (length xs) (xs ++ ys) ≡ ys
drop_front [] ys = refl
drop_front (x ∷ xs) ys = drop_front xs ys

-- what is between two pieces
middle : (xs ys zs : List ℕ) (from to : ℕ) → from ≡ length xs → to ≡ from + length ys → slice_range (xs ++ (ys ++ zs)) from to ≡ ys
middle xs ys zs from to first last =
    let size : to - from ≡ length ys = omega (arith, last) in
    ap (λ (n : ℕ). take n (drop from (xs ++ (ys ++ zs)))) size
    ∙ ap (λ (n : ℕ). take (length ys) (drop n (xs ++ (ys ++ zs)))) first
    ∙ ap (take (length ys)) (drop_front xs (ys ++ zs))
    ∙ take_front ys zs

-- batches from an offset on

-- what precedes them, and them
pub parted : (offset : ℕ) (bs : List (List ℕ)) → (front : List (List ℕ)) × (bs ≡ front ++ from_offset offset bs)
parted offset [] = ([], refl)
parted offset (b ∷ bs) = by (nat_lt (last_of b) offset) refl (parted offset bs)
  where
    by : (t : Bool) → nat_lt (last_of b) offset ≡ t → ((front : List (List ℕ)) × (bs ≡ front ++ from_offset offset bs))
        → (front : List (List ℕ)) × (b ∷ bs ≡ front ++ from_offset offset (b ∷ bs))
    by true t h = (b ∷ h.0, rw t (ap (λ (l : List (List ℕ)). b ∷ l) h.1))
    by false t h = ([], rw t refl)

-- the first one ends past it
pub past_first : (offset : ℕ) (bs : List (List ℕ)) (first : List ℕ) (rest : List (List ℕ)) → from_offset offset bs ≡ first ∷ rest → offset ≤ last_of first
past_first offset [] first rest is = absurd (cc (is))
past_first offset (b ∷ bs) first rest is = by (nat_lt (last_of b) offset) refl is (past_first offset bs first rest)
  where
    by : (t : Bool) → nat_lt (last_of b) offset ≡ t → cond t (from_offset offset bs) (b ∷ bs) ≡ first ∷ rest → (from_offset offset bs ≡ first ∷ rest → offset ≤ last_of first) → offset ≤ last_of first
    by true t is more = more is
    by false t is more =
        let same : b ≡ first = cc (is) in
        let le : offset ≤ last_of b = grind (arith, nat_tests, t) in
        subst (λ (x : List ℕ). offset ≤ last_of x) same le

-- they are the first of those of a longer list
from_more : (offset : ℕ) (bs more : List (List ℕ)) (first : List ℕ) (rest : List (List ℕ)) → from_offset offset bs ≡ first ∷ rest → from_offset offset (bs ++ more) ≡ (first ∷ rest) ++ more
from_more offset [] more first rest is = absurd (cc (is))
from_more offset (b ∷ bs) more first rest is = by (nat_lt (last_of b) offset) is (from_more offset bs more first rest)
  where
    by : (t : Bool) → cond t (from_offset offset bs) (b ∷ bs) ≡ first ∷ rest → (from_offset offset bs ≡ first ∷ rest → from_offset offset (bs ++ more) ≡ (first ∷ rest) ++ more)
        → cond t (from_offset offset (bs ++ more)) (b ∷ (bs ++ more)) ≡ (first ∷ rest) ++ more
    by true is go = go is
    by false is go = ap (λ (l : List (List ℕ)). l ++ more) is

-- batches that were cut out

pub checked_all : (last : Option ℕ) (offset bound : ℕ) (bs : List (List ℕ)) → AreBatches last offset bound bs → AllByRecursion (λ (b : List ℕ). IsOk (checked b)) bs
checked_all last offset bound [] h = tt
checked_all last offset bound (b ∷ bs) h = (h.0.is, checked_all (Some (last_of b + 1)) offset bound bs h.1)

-- where they end
ends_at : (m n : ℕ) (bs : List (List ℕ)) → end_after (Some m) bs ≡ Some n → end_from m bs ≡ n
ends_at m n [] is = cc (is)
ends_at m n (b ∷ bs) is = ends_at (last_of b + 1) n bs is

ends_from : (bs front run : List (List ℕ)) (first : List ℕ) (n : ℕ) → bs ≡ front ++ first ∷ run → end_after None bs ≡ Some n → end_of (first ∷ run) ≡ n
ends_from bs [] run first n parts is = ends_at (last_of first + 1) n run (subst (λ (l : List (List ℕ)). end_after None l ≡ Some n) parts is)
ends_from bs (f ∷ front) run first n parts is =
    let end = ends_at (last_of f + 1) n (front ++ first ∷ run) (subst (λ (l : List (List ℕ)). end_after None l ≡ Some n) parts is) in
    sym (end_append (last_of f + 1) front (first ∷ run)) ∙ end

-- they end within the bound
ends_low : (last : Option ℕ) (offset bound m n : ℕ) (bs : List (List ℕ)) → AreBatches last offset bound bs → end_after last bs ≡ Some n → last ≡ Some m → m ≤ bound → n ≤ bound
ends_low last offset bound m n [] h is at low = (let same : m ≡ n = cc (at, is) in omega (arith, same, low))
ends_low last offset bound m n (b ∷ bs) h is at low = ends_low (Some (last_of b + 1)) offset bound (last_of b + 1) n bs h.1 is refl h.0.below

ends_below : (offset bound n : ℕ) (bs : List (List ℕ)) → AreBatches None offset bound bs → end_after None bs ≡ Some n → n ≤ bound
ends_below offset bound n [] h is = absurd (cc (is))
ends_below offset bound n (b ∷ bs) h is = ends_low (Some (last_of b + 1)) offset bound (last_of b + 1) n bs h.1 is refl h.0.below

-- heads

-- a head that is read has its bytes
read_head : (bytes : List ℕ) (head : Head) → headed bytes ≡ Ok head → (61 ≤ length bytes) × (head ≡ head_of bytes)
unfolding headed
read_head bytes head is = by (head_refusal bytes) refl is
  where
    by : (o : Option HeadRefusal) → head_refusal bytes ≡ o → first_of o (Ok (head_of bytes)) ≡ Ok head → (61 ≤ length bytes) × (head ≡ head_of bytes)
    by None why is = (head_long bytes why, sym (cc (is)))
    by (Some refusal) why is = absurd (cc (is))

-- the head of a batch is read where 61 of its bytes are
pub part_head : (rest more batch others : List ℕ) → IsOk (checked batch) → rest ++ more ≡ batch ++ others → 61 ≤ length rest → (head : Head) × (headed rest ≡ Ok head) × (size_in head ≡ length batch)
unfolding headed
part_head rest more batch others ok is long =
    let whole : head_refusal rest ≡ head_refusal batch = sym (head_kept rest more long) ∙ ap head_refusal is ∙ head_kept batch others (checked_long batch ok) in
    let read : headed (batch ++ []) ≡ Ok (head_of batch) = head_read batch [] ok in
    let none : head_refusal batch ≡ None = sym (head_kept batch [] (checked_long batch ok)) ∙ by (head_refusal (batch ++ [])) (head_of (batch ++ [])) (head_of batch) read in
    let own : size_in (head_of rest) ≡ length batch =
    sym (size_kept rest more long) ∙ ap (λ (l : List ℕ). size_in (head_of l)) is ∙ size_kept batch others (checked_long batch ok) ∙ head_sized batch ok in
    (head_of rest, rw (whole ∙ none) refl, own)
  where
    by : (o : Option HeadRefusal) (h head : Head) → first_of o (Ok h) ≡ Ok head → o ≡ None
    by None h head is = refl
    by (Some why) h head is = absurd (cc (is))

-- a batch that would pass the limit is the one that is there
passing : (limit size : ℕ) (rest more batch others : List ℕ) → IsOk (checked batch) → rest ++ more ≡ batch ++ others → would_pass limit size (headed rest) ≡ true → limit < size + length batch
passing limit size rest more batch others ok is h = by (headed rest) refl h
  where
    by : (r : Result Head HeadRefusal) → headed rest ≡ r → would_pass limit size r ≡ true → limit < size + length batch
    by (Ok head) read h =
        let k = read_head rest head read in
        let own : size_in head ≡ length batch =
        ap size_in k.1 ∙ sym (size_kept rest more k.0) ∙ ap (λ (l : List ℕ). size_in (head_of l)) is ∙ size_kept batch others (checked_long batch ok) ∙ head_sized batch ok in
        let above : limit < size + size_in head = ltb-true limit (size + size_in head) h in
        omega (arith, above, own)
    by (Err why) read h = absurd (cc (h))

-- where there is nothing none would
passing_none : (limit size : ℕ) (rest more : List ℕ) → rest ++ more ≡ [] → would_pass limit size (headed rest) ≡ true → ⊥
passing_none limit size rest more is h = by (headed rest) refl h
  where
    by : (r : Result Head HeadRefusal) → headed rest ≡ r → would_pass limit size r ≡ true → ⊥
    by (Ok head) read h =
        let k = read_head rest head read in
        let none : length rest + length more ≡ 0 = sym (length-append rest more) ∙ ap length is in
        let long = k.0 in
        omega (arith, long, none)
    by (Err why) read h = cc (h)

-- reads

-- bytes that begin with batches, from where the segment's index says on: these are batches of the segment
pub record IsReadFrom (base : ℕ) (batches : List (List ℕ)) (offset from most : ℕ) (given : List ℕ) (bs : List (List ℕ)) (rest : List ℕ) : Type 0 where
  pub former : List (List ℕ)
  pub more : List (List ℕ)
  pub parts : batches ≡ former ++ (bs ++ more)
  pub size : from ≡ length (joined former)
  pub ends : end_from base former ≤ offset
  pub behind : List ℕ
  pub rests : rest ++ behind ≡ joined more
  pub given_is : given ≡ take most (joined (bs ++ more))

pub read_from : (base interval : ℕ) (batches : List (List ℕ)) (offset from most : ℕ) (given : List ℕ) (bs : List (List ℕ)) (rest : List ℕ) → IsSegment base batches → base ≤ offset
    → from ≡ (find (index_of base interval (placed_from 0 batches)) offset).1 → given ≡ take most (drop from (joined batches)) → given ≡ joined bs ++ rest
    → AllByRecursion (λ (b : List ℕ). IsOk (checked b)) bs → IsReadFrom base batches offset from most given bs rest
read_from base interval batches offset from most given bs rest s low from_is given_is stand ok =
    let search = search_begins base interval offset (placed_from 0 batches) (placed_laid base 0 batches s.checked s.consecutive) in
    let q = placed_parts 0 batches search.front search.rest search.parts in
    let size : from ≡ length (joined q.former) = (let place = search.place in let is = q.size in omega (arith, from_is, place, is)) in
    let bytes : drop from (joined batches) ≡ joined q.latter =
    ap (λ (l : List (List ℕ)). drop from (joined l)) q.parts
    ∙ ap (drop from) (joined_append q.former q.latter)
    ∙ ap (λ (n : ℕ). drop n (joined q.former ++ joined q.latter)) size
    ∙ drop_front (joined q.former) (joined q.latter) in
    let taken : given ≡ take most (joined q.latter) = given_is ∙ ap (take most) bytes in
    let behind = drop most (joined q.latter) in
    let whole : joined q.latter ≡ joined bs ++ (rest ++ behind) =
    sym (take-append-drop most (joined q.latter)) ∙ ap (λ (l : List ℕ). l ++ behind) (sym taken ∙ stand) ∙ append_assoc (joined bs) rest behind in
    let all = (all_parts (λ (b : List ℕ). IsOk (checked b)) q.former q.latter (subst (AllByRecursion (λ (b : List ℕ). IsOk (checked b))) q.parts s.checked)).1 in
    let more = parts_same bs q.latter (rest ++ behind) ok all whole in
    record {
      former = q.former;
      more = more.0;
      parts = q.parts ∙ ap (λ (l : List (List ℕ)). q.former ++ l) more.1;
      size = size;
      ends = subst (λ (n : ℕ). n ≤ offset) (q.ends base) (search.before low);
      behind = behind;
      rests = more.2;
      given_is = taken ∙ ap (λ (l : List (List ℕ)). take most (joined l)) more.1;
    }

-- the run

-- a run that was cut out is batches of the segment from the offset on, and the batch that would pass the limit is the next one
pub record IsCutOf (batches : List (List ℕ)) (offset limit bound : ℕ) (given : List ℕ) (cut : Cutout) (passes : Bool) (first : List ℕ) (others : List (List ℕ)) : Type 0 where
  pub rest : List (List ℕ)
  pub parts : from_offset offset batches ≡ (first ∷ others) ++ rest
  pub spelled : slice_range given cut.from cut.to ≡ joined (first ∷ others)
  pub ends : end_of (first ∷ others) ≡ cut.next
  pub below : cut.next ≤ bound
  pub passing : passes ≡ true → WouldPass (first ∷ others) rest limit

pub cut_run : (batches : List (List ℕ)) (base interval offset limit mark end from most : ℕ) (given : List ℕ) (cut : Cutout) → IsSegment base batches → base ≤ offset
    → from ≡ (find (index_of base interval (placed_from 0 batches)) offset).1 → given ≡ take most (drop from (joined batches)) → (r : IsRunCutAt given offset limit mark end cut)
    → IsCutOf batches offset limit (min mark end) given cut (would_pass limit (length (joined (r.first ∷ r.others))) (headed r.rest)) r.first r.others
cut_run batches base interval offset limit mark end from most given cut s low from_is given_is r =
    let k = read_from base interval batches offset from most given r.batches r.rest s low from_is given_is r.stand.parts (checked_all None offset (min mark end) r.batches r.stand.follow) in
    let row = (consecutive_parts base k.former (r.batches ++ k.more) (subst (λ (l : List (List ℕ)). IsConsecutive base l) k.parts s.consecutive)).0 in
    let all = (all_parts (λ (b : List ℕ). IsOk (checked b)) k.former (r.batches ++ k.more) (subst (AllByRecursion (λ (b : List ℕ). IsOk (checked b))) k.parts s.checked)).1 in
    let others = (all_parts (λ (b : List ℕ). IsOk (checked b)) r.batches k.more all).1 in
    let gone = parted offset r.batches in
    let split : r.batches ≡ gone.0 ++ r.first ∷ r.others = gone.1 ∙ ap (λ (l : List (List ℕ)). gone.0 ++ l) r.run in
    let run = joined (r.first ∷ r.others) in
    let text : joined r.batches ≡ joined gone.0 ++ run = ap joined split ∙ joined_append gone.0 (r.first ∷ r.others) in
    let spelled : given ≡ joined gone.0 ++ (run ++ r.rest) = r.stand.parts ∙ ap (λ (l : List ℕ). l ++ r.rest) text ∙ append_assoc (joined gone.0) run r.rest in
    let total : cut.to ≡ length (joined gone.0) + length run = r.stand.place ∙ ap length text ∙ length-append (joined gone.0) run in
    let at : cut.from ≡ length (joined gone.0) = (let f = r.from in omega (arith, f, total)) in
    record {
      rest = k.more;
      parts = ap (from_offset offset) k.parts ∙ from_back base offset k.former (r.batches ++ k.more) row k.ends ∙ from_more offset r.batches k.more r.first r.others r.run;
      spelled = ap (λ (l : List ℕ). slice_range l cut.from cut.to) spelled ∙ middle (joined gone.0) run r.rest cut.from cut.to at (sym r.from);
      ends = ends_from r.batches gone.0 r.others r.first cut.next split r.ends;
      below = ends_below offset (min mark end) cut.next r.batches r.stand.follow r.ends;
      passing = next_passes limit (length run) (r.first ∷ r.others) k.more r.rest k.behind refl others k.rests;
    }
  where
    next_passes : (limit size : ℕ) (run more : List (List ℕ)) (rest behind : List ℕ) → size ≡ length (joined run) → AllByRecursion (λ (b : List ℕ). IsOk (checked b)) more → rest ++ behind ≡ joined more
        → would_pass limit size (headed rest) ≡ true → WouldPass run more limit
    next_passes limit size run [] rest behind is all parts h = passing_none limit size rest behind parts h
    next_passes limit size run (m ∷ more) rest behind is all parts h = subst (λ (n : ℕ). limit < n + length m) is (passing limit size rest behind m (joined more) all.0 parts h)
