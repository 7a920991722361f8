use Rattle.std.proofs.Common.{◌≡◌, ◌≤◌, ℕ, List, [], Some, sym, ap, subst, arith, ◌∙◌}
use Rattle.tier_base.specs.declared.plain.FileName.TheVariants as file
use Rattle.tier_base.specs.Device.{MayBeDone, fate_of}
use Rattle.disk_model.specs.declared.call.DiskCall.TheVariants as call
use Rattle.tier_base.specs.Told.{replaced}
use Rattle.disk_model.specs.Content.{Lawful, Changes, Swapped, Files, Image}
use Rattle.epoch_line.specs.Line.{IsLine}
use Rattle.log_manifest.specs.Spelling.{manifest_bytes}
use Rattle.segment_file.specs.Growing.{Grown}
use Rattle.log_steps.specs.Fronts.{Each}
use Rattle.local_log.specs.Stored.{end_of}
use Rattle.local_log.specs.Listing.{AreSegmentsOf, manifest_of}
use Rattle.local_log.specs.Inside.{DiskHasLog}
use Rattle.local_log.proofs.Having.{has_reopens}
use Rattle.local_log.proofs.Created.{first, first_manifest, first_are, create_since, create_reopens, create_has, create_opens}
use Rattle.local_log.proofs.log.LocalLog.create.Goals as goal

pub invariant_of-result : goal.invariant_of-result
invariant_of-result g c =
    let d = g.D.Disk.content c.args.disk in
    let d' = g.D.Disk.content c.replace.new.self in
    let interval = c.args.settings.index_interval in
    let active_is : c.new-active.result ≡ first interval = c.new-active.ensures in
    let bytes_are : c.deref.result.now ≡ manifest_bytes (first_manifest interval) =
    c.deref.ensures.value ∙ c.in-Ok.ensures
    ∙ ap (λ (x : Grown). manifest_bytes (manifest_of 1 0 [] x c.new-line.result)) active_is
    ∙ ap (λ (l : List (ℕ × ℕ)). manifest_bytes (manifest_of 1 0 [] (first interval) l)) c.new-line.ensures in
    let change = subst (λ (b : List ℕ). Changes file.Manifest (replaced b) (Swapped b) (MayBeDone call.Replace (fate_of c.replace.result) (g.D.Disk.control c.args.disk)) d d') bytes_are c.replace.ensures.content in
    let laws' : Lawful d' = g.met.D.Disk.lawful c.replace.new.self in
    let sure = subst (λ (b : List ℕ). (f : Files) → Image d' f → f file.Manifest ≡ Some b) bytes_are c.in-Ok-replace.ensures.durable in
    let has = create_has d d' interval _ change laws' c.requires.empty sure in
    let end_is : end_of c.new-active.result ≡ 0 = ap end_of active_is in
    record {
      segments = subst (λ (l : List Grown). AreSegmentsOf 0 l c.new-active.result) (sym c.new.ensures.items) (subst (λ (x : Grown). AreSegmentsOf 0 [] x) (sym active_is) (first_are interval));
      settings = c.requires.settings;
      opened = omega arith;
      fits = omega arith;
      line = subst IsLine (sym c.new-line.ensures) tt;
      line_within = subst (Each (λ (e : ℕ × ℕ). e.1 ≤ end_of c.new-active.result)) (sym c.new-line.ensures) tt;
      flushed_end_within = omega arith;
      has = λ whole. subst (λ (l : List Grown). DiskHasLog d' 1 0 l c.new-active.result c.new-line.result 0) (sym c.new.ensures.items)
          (subst (λ (x : Grown). DiskHasLog d' 1 0 [] x c.new-line.result 0) (sym active_is)
          (subst (λ (l : List (ℕ × ℕ)). DiskHasLog d' 1 0 [] (first interval) l 0) (sym c.new-line.ensures) has));
      reopens = has_reopens d' laws' 1 0 [] (first interval) [] 0 has;
    }

pub returns-in-Ok-replace-clause-durable : goal.returns-in-Ok-replace-clause-durable
returns-in-Ok-replace-clause-durable g c =
    let d = g.D.Disk.content c.args.disk in
    let d' = g.D.Disk.content c.replace.new.self in
    let interval = c.args.settings.index_interval in
    let active_is : c.new-active.result ≡ first interval = c.new-active.ensures in
    let bytes_are : c.deref.result.now ≡ manifest_bytes (first_manifest interval) =
    c.deref.ensures.value ∙ c.in-Ok.ensures
    ∙ ap (λ (x : Grown). manifest_bytes (manifest_of 1 0 [] x c.new-line.result)) active_is
    ∙ ap (λ (l : List (ℕ × ℕ)). manifest_bytes (manifest_of 1 0 [] (first interval) l)) c.new-line.ensures in
    let change = subst (λ (b : List ℕ). Changes file.Manifest (replaced b) (Swapped b) (MayBeDone call.Replace (fate_of c.replace.result) (g.D.Disk.control c.args.disk)) d d') bytes_are c.replace.ensures.content in
    let laws' : Lawful d' = g.met.D.Disk.lawful c.replace.new.self in
    let sure = subst (λ (b : List ℕ). (f : Files) → Image d' f → f file.Manifest ≡ Some b) bytes_are c.in-Ok-replace.ensures.durable in
    create_opens d d' interval _ change laws' c.requires.empty sure

pub returns-in-Ok-replace-clause-any_moment : goal.returns-in-Ok-replace-clause-any_moment
returns-in-Ok-replace-clause-any_moment g c =
    let d = g.D.Disk.content c.args.disk in
    let d' = g.D.Disk.content c.replace.new.self in
    let interval = c.args.settings.index_interval in
    let active_is : c.new-active.result ≡ first interval = c.new-active.ensures in
    let bytes_are : c.deref.result.now ≡ manifest_bytes (first_manifest interval) =
    c.deref.ensures.value ∙ c.in-Ok.ensures
    ∙ ap (λ (x : Grown). manifest_bytes (manifest_of 1 0 [] x c.new-line.result)) active_is
    ∙ ap (λ (l : List (ℕ × ℕ)). manifest_bytes (manifest_of 1 0 [] (first interval) l)) c.new-line.ensures in
    let change = subst (λ (b : List ℕ). Changes file.Manifest (replaced b) (Swapped b) (MayBeDone call.Replace (fate_of c.replace.result) (g.D.Disk.control c.args.disk)) d d') bytes_are c.replace.ensures.content in
    create_since d d' interval _ change

pub returns-in-Err-NoMemory-clause-again : goal.returns-in-Err-NoMemory-clause-again
returns-in-Err-NoMemory-clause-again g c =
    let d = g.D.Disk.content c.args.disk in
    let d' = g.D.Disk.content c.replace.new.self in
    let interval = c.args.settings.index_interval in
    let active_is : c.new-active.result ≡ first interval = c.new-active.ensures in
    let bytes_are : c.deref.result.now ≡ manifest_bytes (first_manifest interval) =
    c.deref.ensures.value ∙ c.in-Ok.ensures
    ∙ ap (λ (x : Grown). manifest_bytes (manifest_of 1 0 [] x c.new-line.result)) active_is
    ∙ ap (λ (l : List (ℕ × ℕ)). manifest_bytes (manifest_of 1 0 [] (first interval) l)) c.new-line.ensures in
    let change = subst (λ (b : List ℕ). Changes file.Manifest (replaced b) (Swapped b) (MayBeDone call.Replace (fate_of c.replace.result) (g.D.Disk.control c.args.disk)) d d') bytes_are c.replace.ensures.content in
    create_reopens d d' interval _ change

pub returns-clause-any_moment_err : goal.returns-clause-any_moment_err
returns-clause-any_moment_err g c =
    let d = g.D.Disk.content c.args.disk in
    let d' = g.D.Disk.content c.replace.new.self in
    let interval = c.args.settings.index_interval in
    let active_is : c.new-active.result ≡ first interval = c.new-active.ensures in
    let bytes_are : c.deref.result.now ≡ manifest_bytes (first_manifest interval) =
    c.deref.ensures.value ∙ c.in-Ok.ensures
    ∙ ap (λ (x : Grown). manifest_bytes (manifest_of 1 0 [] x c.new-line.result)) active_is
    ∙ ap (λ (l : List (ℕ × ℕ)). manifest_bytes (manifest_of 1 0 [] (first interval) l)) c.new-line.ensures in
    let change = subst (λ (b : List ℕ). Changes file.Manifest (replaced b) (Swapped b) (MayBeDone call.Replace (fate_of c.replace.result) (g.D.Disk.control c.args.disk)) d d') bytes_are c.replace.ensures.content in
    create_since d d' interval _ change

pub returns-clause-again : goal.returns-clause-again
returns-clause-again g c =
    let d = g.D.Disk.content c.args.disk in
    let d' = g.D.Disk.content c.replace.new.self in
    let interval = c.args.settings.index_interval in
    let active_is : c.new-active.result ≡ first interval = c.new-active.ensures in
    let bytes_are : c.deref.result.now ≡ manifest_bytes (first_manifest interval) =
    c.deref.ensures.value ∙ c.in-Ok.ensures
    ∙ ap (λ (x : Grown). manifest_bytes (manifest_of 1 0 [] x c.new-line.result)) active_is
    ∙ ap (λ (l : List (ℕ × ℕ)). manifest_bytes (manifest_of 1 0 [] (first interval) l)) c.new-line.ensures in
    let change = subst (λ (b : List ℕ). Changes file.Manifest (replaced b) (Swapped b) (MayBeDone call.Replace (fate_of c.replace.result) (g.D.Disk.control c.args.disk)) d d') bytes_are c.replace.ensures.content in
    create_reopens d d' interval _ change
