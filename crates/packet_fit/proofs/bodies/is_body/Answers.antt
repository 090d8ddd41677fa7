use Rattle.std.proofs.Common.{refl}
use Rattle.packet_fit.proofs.bodies.is_body.Goals as goal

pub returns-in-Poll : goal.returns-in-Poll
returns-in-Poll c = rw c.in-Poll.is (λ _. tt, λ _. refl)

pub returns-in-Joined : goal.returns-in-Joined
returns-in-Joined c = rw c.in-Joined.is (λ _. tt, λ _. refl)

pub returns-in-Install : goal.returns-in-Install
returns-in-Install c = rw c.in-Install.is c.are_members.ensures

pub returns-in-Refuse : goal.returns-in-Refuse
returns-in-Refuse c = rw c.in-Refuse.is c.is_refuse.ensures

pub returns-in-Report : goal.returns-in-Report
returns-in-Report c = rw c.in-Report.is c.is_report.ensures

pub returns-in-Open : goal.returns-in-Open
returns-in-Open c = rw c.in-Open.is c.is_open.ensures

pub returns-in-OpenSs : goal.returns-in-OpenSs
returns-in-OpenSs c = rw c.in-OpenSs.is c.is_open_ss.ensures

pub returns-in-Opened : goal.returns-in-Opened
returns-in-Opened c = rw c.in-Opened.is c.is_opened.ensures

pub returns-in-OpenDone : goal.returns-in-OpenDone
returns-in-OpenDone c = rw c.in-OpenDone.is c.is_open_done.ensures

pub returns-in-Op : goal.returns-in-Op
returns-in-Op c = rw c.in-Op.is c.is_op.ensures

pub returns-in-OpDone : goal.returns-in-OpDone
returns-in-OpDone c = rw c.in-OpDone.is c.is_op_done.ensures

pub returns-in-Close : goal.returns-in-Close
returns-in-Close c = rw c.in-Close.is c.is_close.ensures

pub returns-in-Closed : goal.returns-in-Closed
returns-in-Closed c = rw c.in-Closed.is c.is_closed.ensures

pub returns-in-ClosedOk : goal.returns-in-ClosedOk
returns-in-ClosedOk c = rw c.in-ClosedOk.is c.is_closed_ok.ensures

pub returns-in-CloseDone : goal.returns-in-CloseDone
returns-in-CloseDone c = rw c.in-CloseDone.is c.is_close_done.ensures

pub returns-in-Look : goal.returns-in-Look
returns-in-Look c = rw c.in-Look.is c.is_look.ensures

pub returns-in-LookSs : goal.returns-in-LookSs
returns-in-LookSs c = rw c.in-LookSs.is c.is_look_ss.ensures

pub returns-in-LookDone : goal.returns-in-LookDone
returns-in-LookDone c = rw c.in-LookDone.is c.is_look_done.ensures

pub returns-in-Notify : goal.returns-in-Notify
returns-in-Notify c = rw c.in-Notify.is c.is_notice.ensures

pub returns-in-Pull : goal.returns-in-Pull
returns-in-Pull c = rw c.in-Pull.is c.is_pull.ensures

pub returns-in-Page : goal.returns-in-Page
returns-in-Page c = rw c.in-Page.is c.is_page.ensures

pub returns-in-Have : goal.returns-in-Have
returns-in-Have c = rw c.in-Have.is c.is_have.ensures

pub returns-in-Promise : goal.returns-in-Promise
returns-in-Promise c = rw c.in-Promise.is c.is_promise.ensures

pub returns-in-ReportOk : goal.returns-in-ReportOk
returns-in-ReportOk c = rw c.in-ReportOk.is c.is_report_ok.ensures

pub returns-in-ReadHeld : goal.returns-in-ReadHeld
returns-in-ReadHeld c = rw c.in-ReadHeld.is c.is_read_held.ensures

pub returns-in-AsHeld : goal.returns-in-AsHeld
returns-in-AsHeld c = rw c.in-AsHeld.is c.is_as_held.ensures

pub returns-in-Want : goal.returns-in-Want
returns-in-Want c = rw c.in-Want.is c.is_want.ensures

pub returns-in-Delta : goal.returns-in-Delta
returns-in-Delta c = rw c.in-Delta.is c.is_delta.ensures
