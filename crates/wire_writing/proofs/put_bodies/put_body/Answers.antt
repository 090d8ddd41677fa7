use Rattle.std.proofs.Common.{sym}
use Rattle.std.proofs.lemmas.List.{append-nil}
use Rattle.wire_writing.proofs.put_bodies.put_body.Goals as goal

pub returns-in-Poll : goal.returns-in-Poll
returns-in-Poll c = rw c.in-Poll.is (sym (append-nil c.args.out.now))

pub returns-in-Promise : goal.returns-in-Promise
returns-in-Promise c = rw c.in-Promise.is c.put_set.ensures

pub returns-in-Refuse : goal.returns-in-Refuse
returns-in-Refuse c = rw c.in-Refuse.is c.put_epoch.ensures

pub returns-in-Install : goal.returns-in-Install
returns-in-Install c = rw c.in-Install.is c.put_members.ensures

pub returns-in-Joined : goal.returns-in-Joined
returns-in-Joined c = rw c.in-Joined.is (sym (append-nil c.args.out.now))

pub put_report-requires : goal.put_report-requires
put_report-requires c = rw c.in-Report.is at c.requires

pub returns-in-Report : goal.returns-in-Report
returns-in-Report c = rw c.in-Report.is c.put_report.ensures

pub returns-in-ReportOk : goal.returns-in-ReportOk
returns-in-ReportOk c = rw c.in-ReportOk.is c.put_u8.ensures.ok

pub returns-in-Open : goal.returns-in-Open
returns-in-Open c = rw c.in-Open.is c.put_open.ensures

pub put_open_ss-requires : goal.put_open_ss-requires
put_open_ss-requires c = rw c.in-OpenSs.is at c.requires

pub returns-in-OpenSs : goal.returns-in-OpenSs
returns-in-OpenSs c = rw c.in-OpenSs.is c.put_open_ss.ensures

pub put_opened-requires : goal.put_opened-requires
put_opened-requires c = rw c.in-Opened.is at c.requires

pub returns-in-Opened : goal.returns-in-Opened
returns-in-Opened c = rw c.in-Opened.is c.put_opened.ensures

pub put_open_done-requires : goal.put_open_done-requires
put_open_done-requires c = rw c.in-OpenDone.is at c.requires

pub returns-in-OpenDone : goal.returns-in-OpenDone
returns-in-OpenDone c = rw c.in-OpenDone.is c.put_open_done.ensures

pub put_operation-requires : goal.put_operation-requires
put_operation-requires c = rw c.in-Op.is at c.requires

pub returns-in-Op : goal.returns-in-Op
returns-in-Op c = rw c.in-Op.is c.put_operation.ensures

pub put_op_done-requires : goal.put_op_done-requires
put_op_done-requires c = rw c.in-OpDone.is at c.requires

pub returns-in-OpDone : goal.returns-in-OpDone
returns-in-OpDone c = rw c.in-OpDone.is c.put_op_done.ensures

pub returns-in-Close : goal.returns-in-Close
returns-in-Close c = rw c.in-Close.is c.put_u32.ensures.ok

pub returns-in-Closed : goal.returns-in-Closed
returns-in-Closed c = rw c.in-Closed.is c.put_closed.ensures

pub returns-in-ClosedOk : goal.returns-in-ClosedOk
returns-in-ClosedOk c = rw c.in-ClosedOk.is c.put_instance.ensures

pub put_close_done-requires : goal.put_close_done-requires
put_close_done-requires c = rw c.in-CloseDone.is at c.requires

pub returns-in-CloseDone : goal.returns-in-CloseDone
returns-in-CloseDone c = rw c.in-CloseDone.is c.put_close_done.ensures

pub put_look-requires : goal.put_look-requires
put_look-requires c = rw c.in-Look.is at c.requires

pub returns-in-Look : goal.returns-in-Look
returns-in-Look c = rw c.in-Look.is c.put_look.ensures

pub put_look_ss-requires : goal.put_look_ss-requires
put_look_ss-requires c = rw c.in-LookSs.is at c.requires

pub returns-in-LookSs : goal.returns-in-LookSs
returns-in-LookSs c = rw c.in-LookSs.is c.put_look_ss.ensures

pub put_look_done-requires : goal.put_look_done-requires
put_look_done-requires c = rw c.in-LookDone.is at c.requires

pub returns-in-LookDone : goal.returns-in-LookDone
returns-in-LookDone c = rw c.in-LookDone.is c.put_look_done.ensures

pub returns-in-Notify : goal.returns-in-Notify
returns-in-Notify c = rw c.in-Notify.is c.put_notify.ensures

pub returns-in-Pull : goal.returns-in-Pull
returns-in-Pull c = rw c.in-Pull.is c.put_pull.ensures

pub put_page-requires : goal.put_page-requires
put_page-requires c = rw c.in-Page.is at c.requires

pub returns-in-Page : goal.returns-in-Page
returns-in-Page c = rw c.in-Page.is c.put_page.ensures

pub returns-in-Have : goal.returns-in-Have
returns-in-Have c = rw c.in-Have.is c.put_have.ensures

pub returns-in-ReadHeld : goal.returns-in-ReadHeld
returns-in-ReadHeld c = rw c.in-ReadHeld.is c.put_read_held.ensures

pub returns-in-AsHeld : goal.returns-in-AsHeld
returns-in-AsHeld c = rw c.in-AsHeld.is c.put_held_done.ensures

pub returns-in-Want : goal.returns-in-Want
returns-in-Want c = rw c.in-Want.is c.put_want.ensures

pub put_delta-requires : goal.put_delta-requires
put_delta-requires c = rw c.in-Delta.is at c.requires

pub returns-in-Delta : goal.returns-in-Delta
returns-in-Delta c = rw c.in-Delta.is c.put_delta.ensures
