use Rattle.std.proofs.Common.{◌≤◌, None, arith}
use Rattle.locus_ids.specs.Sizes.{file_bytes_max}
use Rattle.site_node.proofs.Parts.{delta_works, notified_works, paged_works}
use Rattle.site_parts.proofs.Fits.{memory_fit}
use Rattle.site_node.specs.Fitting.{IsShort}
use Rattle.std.proofs.Common.{subst}
use Rattle.site_node.proofs.node.SiteNode.take_pulled.Goals as goal

pub returns-in_ok-on_notify-in-Notify-clause-works : goal.returns-in_ok-on_notify-in-Notify-clause-works
returns-in_ok-on_notify-in-Notify-clause-works c =
    let small : c.in-Notify.size ≤ file_bytes_max = omega (arith, c.if-size-gt-FILE_BYTES.false) in
    rw c.in-Notify.is (notified_works c.args.from c.head_of-own.result (record { file = c.in-Notify.file; kind = c.in-Notify.kind; set = c.in-Notify.set; size = c.in-Notify.size; stamp = c.in-Notify.stamp; vector = c.in-Notify.vector; holder = c.in-Notify.holder; base = None; wanted = None; content = c.new.result }) c.args.self.now c.on_notify.new.self c.args.out.now c.on_notify.new.out c.new.ensures small c.head_of-own.ensures
    c.in_ok-on_notify-in-Notify.ensures.view c.in_ok-on_notify-in-Notify.ensures.packets c.in_ok-on_notify-in-Notify.ensures.records)

pub returns-in_ok-on_page-in-Page-clause-works : goal.returns-in_ok-on_page-in-Page-clause-works
returns-in_ok-on_page-in-Page-clause-works c = rw c.in-Page.is (paged_works c.in-Page.file c.in-Page.stamp c.in-Page.page c.as_slice.result.now c.in-Page.bytes c.args.self.now c.on_page.new.self c.args.out.now c.on_page.new.out c.as_slice.ensures c.in_ok-on_page-in-Page.ensures.view c.in_ok-on_page-in-Page.ensures.packets c.in_ok-on_page-in-Page.ensures.records)

pub returns-in_ok-on_delta-in-Delta-clause-works : goal.returns-in_ok-on_delta-in-Delta-clause-works
returns-in_ok-on_delta-in-Delta-clause-works c = rw c.in-Delta.is (delta_works c.in-Delta.file c.head_of-held.result c.in-Delta.wanted c.as_slice-numbers.result.now c.in-Delta.pages c.args.self.now c.on_delta.new.self c.args.out.now c.on_delta.new.out c.as_slice-numbers.ensures c.head_of-held.ensures
    c.in_ok-on_delta-in-Delta.ensures.view c.in_ok-on_delta-in-Delta.ensures.packets c.in_ok-on_delta-in-Delta.ensures.records)

pub returns-then-size-gt-FILE_BYTES-clause-unfit : goal.returns-then-size-gt-FILE_BYTES-clause-unfit
returns-then-size-gt-FILE_BYTES-clause-unfit c so can = (let short : c.in-Notify.size ≤ file_bytes_max = subst IsShort c.in-Notify.is can in omega (arith, short, c.if-size-gt-FILE_BYTES.true))

pub returns-in_err-on_notify-in-Notify-clause-unfit : goal.returns-in_err-on_notify-in-Notify-clause-unfit
returns-in_err-on_notify-in-Notify-clause-unfit c so can = memory_fit c.from_residual.result c.from_residual.ensures.1 so

pub returns-in_err-on_page-in-Page-clause-unfit : goal.returns-in_err-on_page-in-Page-clause-unfit
returns-in_err-on_page-in-Page-clause-unfit c so can = memory_fit c.from_residual-in_err-on_page-in-Page.result c.from_residual-in_err-on_page-in-Page.ensures.1 so

pub returns-in_err-on_delta-in-Delta-clause-unfit : goal.returns-in_err-on_delta-in-Delta-clause-unfit
returns-in_err-on_delta-in-Delta-clause-unfit c so can = memory_fit c.from_residual-in_err-on_delta-in-Delta.result c.from_residual-in_err-on_delta-in-Delta.ensures.1 so
