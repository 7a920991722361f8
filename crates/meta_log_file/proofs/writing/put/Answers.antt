use Rattle.std.proofs.Common.{◌∙◌, ap, refl, arith, List, ℕ, ◌++◌, ◌∷◌, []}
use Rattle.disk_model.specs.Content.{Files, Image}
use Rattle.meta_log_file.proofs.Fates.{trouble_not_went, err_not_went}
use Rattle.meta_log_file.proofs.Holding.{last_end}
use Rattle.meta_log_file.proofs.Gating.{stands_kept}
use Rattle.meta_log_file.proofs.Putting.{ready, extended_since, extended_has, extended_or, grows_not, committed_has, committed_since, grows_perhaps, put_has, put_durable, put_grows, put_place}
use Rattle.meta_log_file.proofs.Leaving.{grows_kept}
use Rattle.meta_log_file.proofs.writing.put.Goals as goal

pub returns-in-Err-clause-has : goal.returns-in-Err-clause-has
returns-in-Err-clause-has g c =
    let d = g.D.Disk.content c.args.disk.now in
    let m = g.D.Disk.content c.reserve-2.new.self in
    let e = g.D.Disk.content c.extend.new.disk in
    let h = c.requires.has in
    let ends = c.args.marks.now.ends.items in
    let tail = c.args.marks.now.tail in
    let note = c.args.note.now in
    let next = c.in-Some.next in
    let framed_is = c.in_ok-bytes.ensures in
    let keeps = c.reserve-2.ensures.content in
    let stands = stands_kept d m h.notes tail keeps h.stands in
    let last = c.end-end.ensures in
    let long = c.len.ensures in
    let r = ready d (g.met.D.Disk.lawful c.args.disk.now) ends tail h note c.in_ok-bytes.bytes.items c.end-end.result next c.requires.sure c.tell.ensures framed_is last (omega (arith, c.in-Some.ensures, long)) (omega (arith, c.in-Some.ensures)) in
    let x = c.in-Err.ensures.content h.notes note stands c.requires.sure (last ∙ last_end ends h.notes h.ends_are) (c.as_slice.ensures.value ∙ framed_is) in
    extended_has d e ends c.reserve.new.self.items h.notes note next _ m r x c.reserve.ensures.items

pub returns-in-Err-clause-content : goal.returns-in-Err-clause-content
returns-in-Err-clause-content g c =
    let d = g.D.Disk.content c.args.disk.now in
    let m = g.D.Disk.content c.reserve-2.new.self in
    let e = g.D.Disk.content c.extend.new.disk in
    let h = c.requires.has in
    let ends = c.args.marks.now.ends.items in
    let tail = c.args.marks.now.tail in
    let note = c.args.note.now in
    let next = c.in-Some.next in
    let framed_is = c.in_ok-bytes.ensures in
    let keeps = c.reserve-2.ensures.content in
    let stands = stands_kept d m h.notes tail keeps h.stands in
    let last = c.end-end.ensures in
    let long = c.len.ensures in
    let r = ready d (g.met.D.Disk.lawful c.args.disk.now) ends tail h note c.in_ok-bytes.bytes.items c.end-end.result next c.requires.sure c.tell.ensures framed_is last (omega (arith, c.in-Some.ensures, long)) (omega (arith, c.in-Some.ensures)) in
    let x = c.in-Err.ensures.content h.notes note stands c.requires.sure (last ∙ last_end ends h.notes h.ends_are) (c.as_slice.ensures.value ∙ framed_is) in
    grows_not d e (g.met.D.Disk.lawful c.extend.new.disk) ends h.notes note next _ r (c.extend.ensures.is_observable ∙ keeps.is_observable) x.images (trouble_not_went c.in-Err.trouble)

pub returns-in-Err-clause-since : goal.returns-in-Err-clause-since
returns-in-Err-clause-since g c =
    let d = g.D.Disk.content c.args.disk.now in
    let m = g.D.Disk.content c.reserve-2.new.self in
    let e = g.D.Disk.content c.extend.new.disk in
    let h = c.requires.has in
    let ends = c.args.marks.now.ends.items in
    let tail = c.args.marks.now.tail in
    let note = c.args.note.now in
    let next = c.in-Some.next in
    let framed_is = c.in_ok-bytes.ensures in
    let keeps = c.reserve-2.ensures.content in
    let stands = stands_kept d m h.notes tail keeps h.stands in
    let last = c.end-end.ensures in
    let long = c.len.ensures in
    let r = ready d (g.met.D.Disk.lawful c.args.disk.now) ends tail h note c.in_ok-bytes.bytes.items c.end-end.result next c.requires.sure c.tell.ensures framed_is last (omega (arith, c.in-Some.ensures, long)) (omega (arith, c.in-Some.ensures)) in
    let x = c.in-Err.ensures.content h.notes note stands c.requires.sure (last ∙ last_end ends h.notes h.ends_are) (c.as_slice.ensures.value ∙ framed_is) in
    extended_since d m e (g.met.D.Disk.lawful c.reserve-2.new.self) ends h.notes note next _ r keeps x

pub returns-in-Err-commit-clause-has : goal.returns-in-Err-commit-clause-has
returns-in-Err-commit-clause-has g c =
    let d = g.D.Disk.content c.args.disk.now in
    let m = g.D.Disk.content c.reserve-2.new.self in
    let e = g.D.Disk.content c.extend.new.disk in
    let h = c.requires.has in
    let ends = c.args.marks.now.ends.items in
    let tail = c.args.marks.now.tail in
    let note = c.args.note.now in
    let next = c.in-Some.next in
    let framed_is = c.in_ok-bytes.ensures in
    let keeps = c.reserve-2.ensures.content in
    let stands = stands_kept d m h.notes tail keeps h.stands in
    let last = c.end-end.ensures in
    let long = c.len.ensures in
    let r = ready d (g.met.D.Disk.lawful c.args.disk.now) ends tail h note c.in_ok-bytes.bytes.items c.end-end.result next c.requires.sure c.tell.ensures framed_is last (omega (arith, c.in-Some.ensures, long)) (omega (arith, c.in-Some.ensures)) in
    let n = g.D.Disk.content c.commit.new.disk in
    let x = c.in_default-extend.ensures.content h.notes note stands c.requires.sure (last ∙ last_end ends h.notes h.ends_are) (c.as_slice.ensures.value ∙ framed_is) in
    let or = λ (f : Files) (image : Image e f). extended_or h.notes note f (x.images f image) (x.stays refl f image) in
    let y = c.in-Err-commit.ensures.content h.notes (h.notes ++ note ∷ []) x.images or r.next_is in
    committed_has d e n ends c.reserve.new.self.items h.notes note next _ r y c.reserve.ensures.items

pub returns-in-Err-commit-clause-content : goal.returns-in-Err-commit-clause-content
returns-in-Err-commit-clause-content g c =
    let d = g.D.Disk.content c.args.disk.now in
    let m = g.D.Disk.content c.reserve-2.new.self in
    let e = g.D.Disk.content c.extend.new.disk in
    let h = c.requires.has in
    let ends = c.args.marks.now.ends.items in
    let tail = c.args.marks.now.tail in
    let note = c.args.note.now in
    let next = c.in-Some.next in
    let framed_is = c.in_ok-bytes.ensures in
    let keeps = c.reserve-2.ensures.content in
    let stands = stands_kept d m h.notes tail keeps h.stands in
    let last = c.end-end.ensures in
    let long = c.len.ensures in
    let r = ready d (g.met.D.Disk.lawful c.args.disk.now) ends tail h note c.in_ok-bytes.bytes.items c.end-end.result next c.requires.sure c.tell.ensures framed_is last (omega (arith, c.in-Some.ensures, long)) (omega (arith, c.in-Some.ensures)) in
    let n = g.D.Disk.content c.commit.new.disk in
    let x = c.in_default-extend.ensures.content h.notes note stands c.requires.sure (last ∙ last_end ends h.notes h.ends_are) (c.as_slice.ensures.value ∙ framed_is) in
    let or = λ (f : Files) (image : Image e f). extended_or h.notes note f (x.images f image) (x.stays refl f image) in
    let y = c.in-Err-commit.ensures.content h.notes (h.notes ++ note ∷ []) x.images or r.next_is in
    grows_perhaps d e n (g.met.D.Disk.lawful c.commit.new.disk) ends h.notes note next _ r (c.commit.ensures.is_observable ∙ c.extend.ensures.is_observable ∙ keeps.is_observable) y (trouble_not_went c.in-Err-commit.trouble)

pub returns-in-Err-commit-clause-since : goal.returns-in-Err-commit-clause-since
returns-in-Err-commit-clause-since g c =
    let d = g.D.Disk.content c.args.disk.now in
    let m = g.D.Disk.content c.reserve-2.new.self in
    let e = g.D.Disk.content c.extend.new.disk in
    let h = c.requires.has in
    let ends = c.args.marks.now.ends.items in
    let tail = c.args.marks.now.tail in
    let note = c.args.note.now in
    let next = c.in-Some.next in
    let framed_is = c.in_ok-bytes.ensures in
    let keeps = c.reserve-2.ensures.content in
    let stands = stands_kept d m h.notes tail keeps h.stands in
    let last = c.end-end.ensures in
    let long = c.len.ensures in
    let r = ready d (g.met.D.Disk.lawful c.args.disk.now) ends tail h note c.in_ok-bytes.bytes.items c.end-end.result next c.requires.sure c.tell.ensures framed_is last (omega (arith, c.in-Some.ensures, long)) (omega (arith, c.in-Some.ensures)) in
    let n = g.D.Disk.content c.commit.new.disk in
    let x = c.in_default-extend.ensures.content h.notes note stands c.requires.sure (last ∙ last_end ends h.notes h.ends_are) (c.as_slice.ensures.value ∙ framed_is) in
    let or = λ (f : Files) (image : Image e f). extended_or h.notes note f (x.images f image) (x.stays refl f image) in
    let y = c.in-Err-commit.ensures.content h.notes (h.notes ++ note ∷ []) x.images or r.next_is in
    committed_since d m e n (g.met.D.Disk.lawful c.reserve-2.new.self) ends h.notes note next _ r keeps x (c.extend.ensures.is_observable ∙ keeps.is_observable) y

pub returns-clause-has : goal.returns-clause-has
returns-clause-has g c =
    let d = g.D.Disk.content c.args.disk.now in
    let m = g.D.Disk.content c.reserve-2.new.self in
    let e = g.D.Disk.content c.extend.new.disk in
    let h = c.requires.has in
    let ends = c.args.marks.now.ends.items in
    let tail = c.args.marks.now.tail in
    let note = c.args.note.now in
    let next = c.in-Some.next in
    let framed_is = c.in_ok-bytes.ensures in
    let keeps = c.reserve-2.ensures.content in
    let stands = stands_kept d m h.notes tail keeps h.stands in
    let last = c.end-end.ensures in
    let long = c.len.ensures in
    let r = ready d (g.met.D.Disk.lawful c.args.disk.now) ends tail h note c.in_ok-bytes.bytes.items c.end-end.result next c.requires.sure c.tell.ensures framed_is last (omega (arith, c.in-Some.ensures, long)) (omega (arith, c.in-Some.ensures)) in
    let n = g.D.Disk.content c.commit.new.disk in
    let x = c.in_default-extend.ensures.content h.notes note stands c.requires.sure (last ∙ last_end ends h.notes h.ends_are) (c.as_slice.ensures.value ∙ framed_is) in
    let or = λ (f : Files) (image : Image e f). extended_or h.notes note f (x.images f image) (x.stays refl f image) in
    let y = c.in_default-commit.ensures.content h.notes (h.notes ++ note ∷ []) x.images or r.next_is in
    put_has d m e n ends c.push_reserved.new.self.items h.notes note next r y (c.commit.ensures.exact (h.notes ++ note ∷ []) (x.exact refl)) (c.push_reserved.ensures.items ∙ ap (λ (l : List ℕ). l ++ next ∷ []) c.reserve.ensures.items)

pub returns-clause-content : goal.returns-clause-content
returns-clause-content g c =
    let d = g.D.Disk.content c.args.disk.now in
    let m = g.D.Disk.content c.reserve-2.new.self in
    let e = g.D.Disk.content c.extend.new.disk in
    let h = c.requires.has in
    let ends = c.args.marks.now.ends.items in
    let tail = c.args.marks.now.tail in
    let note = c.args.note.now in
    let next = c.in-Some.next in
    let framed_is = c.in_ok-bytes.ensures in
    let keeps = c.reserve-2.ensures.content in
    let stands = stands_kept d m h.notes tail keeps h.stands in
    let last = c.end-end.ensures in
    let long = c.len.ensures in
    let r = ready d (g.met.D.Disk.lawful c.args.disk.now) ends tail h note c.in_ok-bytes.bytes.items c.end-end.result next c.requires.sure c.tell.ensures framed_is last (omega (arith, c.in-Some.ensures, long)) (omega (arith, c.in-Some.ensures)) in
    let n = g.D.Disk.content c.commit.new.disk in
    let x = c.in_default-extend.ensures.content h.notes note stands c.requires.sure (last ∙ last_end ends h.notes h.ends_are) (c.as_slice.ensures.value ∙ framed_is) in
    let or = λ (f : Files) (image : Image e f). extended_or h.notes note f (x.images f image) (x.stays refl f image) in
    let y = c.in_default-commit.ensures.content h.notes (h.notes ++ note ∷ []) x.images or r.next_is in
    put_grows d e n (g.met.D.Disk.lawful c.commit.new.disk) ends h.notes note next r (c.commit.ensures.is_observable ∙ c.extend.ensures.is_observable ∙ keeps.is_observable) y

pub returns-clause-place : goal.returns-clause-place
returns-clause-place g c = λ is_observable.
    let d = g.D.Disk.content c.args.disk.now in
    let m = g.D.Disk.content c.reserve-2.new.self in
    let e = g.D.Disk.content c.extend.new.disk in
    let h = c.requires.has in
    let ends = c.args.marks.now.ends.items in
    let tail = c.args.marks.now.tail in
    let note = c.args.note.now in
    let next = c.in-Some.next in
    let framed_is = c.in_ok-bytes.ensures in
    let keeps = c.reserve-2.ensures.content in
    let stands = stands_kept d m h.notes tail keeps h.stands in
    let last = c.end-end.ensures in
    let long = c.len.ensures in
    let r = ready d (g.met.D.Disk.lawful c.args.disk.now) ends tail h note c.in_ok-bytes.bytes.items c.end-end.result next c.requires.sure c.tell.ensures framed_is last (omega (arith, c.in-Some.ensures, long)) (omega (arith, c.in-Some.ensures)) in
    let place = put_place d ends h.notes note next r is_observable in omega (arith, c.len-at.ensures, place)

pub returns-clause-since : goal.returns-clause-since
returns-clause-since g c =
    let d = g.D.Disk.content c.args.disk.now in
    let m = g.D.Disk.content c.reserve-2.new.self in
    let e = g.D.Disk.content c.extend.new.disk in
    let h = c.requires.has in
    let ends = c.args.marks.now.ends.items in
    let tail = c.args.marks.now.tail in
    let note = c.args.note.now in
    let next = c.in-Some.next in
    let framed_is = c.in_ok-bytes.ensures in
    let keeps = c.reserve-2.ensures.content in
    let stands = stands_kept d m h.notes tail keeps h.stands in
    let last = c.end-end.ensures in
    let long = c.len.ensures in
    let r = ready d (g.met.D.Disk.lawful c.args.disk.now) ends tail h note c.in_ok-bytes.bytes.items c.end-end.result next c.requires.sure c.tell.ensures framed_is last (omega (arith, c.in-Some.ensures, long)) (omega (arith, c.in-Some.ensures)) in
    let n = g.D.Disk.content c.commit.new.disk in
    let x = c.in_default-extend.ensures.content h.notes note stands c.requires.sure (last ∙ last_end ends h.notes h.ends_are) (c.as_slice.ensures.value ∙ framed_is) in
    let or = λ (f : Files) (image : Image e f). extended_or h.notes note f (x.images f image) (x.stays refl f image) in
    let y = c.in_default-commit.ensures.content h.notes (h.notes ++ note ∷ []) x.images or r.next_is in
    committed_since d m e n (g.met.D.Disk.lawful c.reserve-2.new.self) ends h.notes note next _ r keeps x (c.extend.ensures.is_observable ∙ keeps.is_observable) y

pub returns-clause-durable : goal.returns-clause-durable
returns-clause-durable g c =
    let d = g.D.Disk.content c.args.disk.now in
    let m = g.D.Disk.content c.reserve-2.new.self in
    let e = g.D.Disk.content c.extend.new.disk in
    let h = c.requires.has in
    let ends = c.args.marks.now.ends.items in
    let tail = c.args.marks.now.tail in
    let note = c.args.note.now in
    let next = c.in-Some.next in
    let framed_is = c.in_ok-bytes.ensures in
    let keeps = c.reserve-2.ensures.content in
    let stands = stands_kept d m h.notes tail keeps h.stands in
    let last = c.end-end.ensures in
    let long = c.len.ensures in
    let r = ready d (g.met.D.Disk.lawful c.args.disk.now) ends tail h note c.in_ok-bytes.bytes.items c.end-end.result next c.requires.sure c.tell.ensures framed_is last (omega (arith, c.in-Some.ensures, long)) (omega (arith, c.in-Some.ensures)) in
    let n = g.D.Disk.content c.commit.new.disk in
    let x = c.in_default-extend.ensures.content h.notes note stands c.requires.sure (last ∙ last_end ends h.notes h.ends_are) (c.as_slice.ensures.value ∙ framed_is) in
    let or = λ (f : Files) (image : Image e f). extended_or h.notes note f (x.images f image) (x.stays refl f image) in
    let y = c.in_default-commit.ensures.content h.notes (h.notes ++ note ∷ []) x.images or r.next_is in
    put_durable d e n (g.met.D.Disk.lawful c.commit.new.disk) ends h.notes note next r (c.commit.ensures.is_observable ∙ c.extend.ensures.is_observable ∙ keeps.is_observable) y

pub returns-in_err-reserve-2-clause-content : goal.returns-in_err-reserve-2-clause-content
returns-in_err-reserve-2-clause-content g c =
    grows_kept (g.D.Disk.content c.args.disk.now) (g.D.Disk.content c.reserve-2.new.self) c.args.note.now _ (err_not_went c.from_residual-in_err-reserve-2.result search) c.reserve-2.ensures.content
