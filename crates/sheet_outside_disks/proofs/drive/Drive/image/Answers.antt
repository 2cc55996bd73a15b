use Rattle.std.proofs.Common.{◌≡◌, ◌≤◌, true, List, length, take, map, Some, None, IfOk, sym, ◌∙◌, ap, subst, arith, rules}
use Rattle.std.proofs.lemmas.List.{take-map, length-map}
use Rattle.sheet_outside_disks.specs.Drive.{Call, Drive, call_of, IsLastOpen, state}
use Rattle.sheet_outside_disks.specs.Image.{open_at, IsImageAt}
use Rattle.sheet_outside_disks.proofs.Imaging.{image_at, if_ok_as, open_not_there}
use Rattle.sheet_outside_disks.proofs.drive.Drive.image.Goals as goal

pub returns-in-Some-2 : goal.returns-in-Some-2
returns-in-Some-2 c =
    let old : Drive = record {
      start = c.self.inside.start;
      calls = map call_of c.self.inside.log.items;
      is_open = c.self.inside.is_open;
      tells =
          c.self.inside.tells;
    } in
    let same : old ≡ c.args.self.now = search rules in
    let tells : c.self.inside.tells ≡ true = search rules in
    let within : c.args.call ≤ length (map call_of c.self.inside.log.items) =
    omega (arith, length-map c.self.inside.log.items call_of, c.if-call-len.false, c.len.ensures, ap length c.deref.ensures.value, c.deref.ensures.len) in
    let calls : map call_of c.split_at.result.0.now ≡ take c.args.call (map call_of c.self.inside.log.items) =
    ap (λ l. map call_of l) (c.split_at.ensures.front ∙ ap (λ l. take c.args.call l) c.deref.ensures.value)
    ∙ sym (take-map call_of c.args.call c.self.inside.log.items) in
    let last : IsLastOpen (state c.self.inside.start (take c.args.call (map call_of c.self.inside.log.items))) (Some c.in-Some.name.now) =
    subst (λ (l : List Call). IsLastOpen (state c.self.inside.start l) (Some c.in-Some.name.now)) calls (c.in-Some.ensures c.self.inside.start) in
    let there : Some c.in-Some-2.file ≡ (state c.self.inside.start (take c.args.call (map call_of c.self.inside.log.items))).disk.now c.in-Some.name.now =
    sym c.in-Some-2.is ∙ c.in_ok-file-in-Some.ensures ∙ ap (λ (l : List Call). (state c.self.inside.start l).disk.now c.in-Some.name.now) calls in
    subst (λ d. IfOk c.fill_image.result (λ image. IsImageAt d c.args.call c.args.fill (open_at d c.args.call) image.items)) same
    (if_ok_as _ (λ image. IsImageAt old c.args.call c.args.fill (open_at old c.args.call) image.items)
    (λ image is. image_at old c.args.call c.args.fill c.in-Some.name.now c.in-Some-2.file image.items tells within last there is) c.fill_image.result
    (search rules))

pub returns-in-None-2 : goal.returns-in-None-2
returns-in-None-2 c =
    let old : Drive = record {
      start = c.self.inside.start;
      calls = map call_of c.self.inside.log.items;
      is_open = c.self.inside.is_open;
      tells =
          c.self.inside.tells;
    } in
    let same : old ≡ c.args.self.now = search rules in
    let tells : c.self.inside.tells ≡ true = search rules in
    let within : c.args.call ≤ length (map call_of c.self.inside.log.items) =
    omega (arith, length-map c.self.inside.log.items call_of, c.if-call-len.false, c.len.ensures, ap length c.deref.ensures.value, c.deref.ensures.len) in
    let calls : map call_of c.split_at.result.0.now ≡ take c.args.call (map call_of c.self.inside.log.items) =
    ap (λ l. map call_of l) (c.split_at.ensures.front ∙ ap (λ l. take c.args.call l) c.deref.ensures.value)
    ∙ sym (take-map call_of c.args.call c.self.inside.log.items) in
    let last : IsLastOpen (state c.self.inside.start (take c.args.call (map call_of c.self.inside.log.items))) (Some c.in-Some.name.now) =
    subst (λ (l : List Call). IsLastOpen (state c.self.inside.start l) (Some c.in-Some.name.now)) calls (c.in-Some.ensures c.self.inside.start) in
    let none : None ≡ (state c.self.inside.start (take c.args.call (map call_of c.self.inside.log.items))).disk.now c.in-Some.name.now =
    sym c.in-None-2.is ∙ c.in_ok-file-in-Some.ensures ∙ ap (λ (l : List Call). (state c.self.inside.start l).disk.now c.in-Some.name.now) calls in
    absurd (open_not_there old c.args.call c.in-Some.name.now last none)
