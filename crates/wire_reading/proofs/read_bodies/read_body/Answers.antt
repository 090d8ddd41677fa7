use Rattle.std.proofs.Common.{refl}
use Rattle.wire_messages.specs.Bodies.{body_kinds}
use Rattle.wire_reading.proofs.read_bodies.read_body.Goals as goal

pub returns-in-1 : goal.returns-in-1
unfolding body_kinds
returns-in-1 c = rw c.in-1.is refl

pub returns-in-2 : goal.returns-in-2
unfolding body_kinds
returns-in-2 c = rw c.in-2.is c.read_promise.ensures

pub returns-in-3 : goal.returns-in-3
unfolding body_kinds
returns-in-3 c = rw c.in-3.is c.read_refuse.ensures

pub returns-in-4 : goal.returns-in-4
unfolding body_kinds
returns-in-4 c = rw c.in-4.is c.read_install.ensures

pub returns-in-5 : goal.returns-in-5
unfolding body_kinds
returns-in-5 c = rw c.in-5.is refl

pub returns-in-6 : goal.returns-in-6
unfolding body_kinds
returns-in-6 c = rw c.in-6.is c.read_report.ensures

pub returns-in-7 : goal.returns-in-7
unfolding body_kinds
returns-in-7 c = rw c.in-7.is c.read_report_ok.ensures

pub returns-in-8 : goal.returns-in-8
unfolding body_kinds
returns-in-8 c = rw c.in-8.is c.read_open.ensures

pub returns-in-9 : goal.returns-in-9
unfolding body_kinds
returns-in-9 c = rw c.in-9.is c.read_open_ss.ensures

pub returns-in-10 : goal.returns-in-10
unfolding body_kinds
returns-in-10 c = rw c.in-10.is c.read_opened.ensures

pub returns-in-11 : goal.returns-in-11
unfolding body_kinds
returns-in-11 c = rw c.in-11.is c.read_open_done.ensures

pub returns-in-12 : goal.returns-in-12
unfolding body_kinds
returns-in-12 c = rw c.in-12.is c.read_operation.ensures

pub returns-in-13 : goal.returns-in-13
unfolding body_kinds
returns-in-13 c = rw c.in-13.is c.read_op_done.ensures

pub returns-in-14 : goal.returns-in-14
unfolding body_kinds
returns-in-14 c = rw c.in-14.is c.read_close.ensures

pub returns-in-15 : goal.returns-in-15
unfolding body_kinds
returns-in-15 c = rw c.in-15.is c.read_closed.ensures

pub returns-in-16 : goal.returns-in-16
unfolding body_kinds
returns-in-16 c = rw c.in-16.is c.read_closed_ok.ensures

pub returns-in-17 : goal.returns-in-17
unfolding body_kinds
returns-in-17 c = rw c.in-17.is c.read_close_done.ensures

pub returns-in-18 : goal.returns-in-18
unfolding body_kinds
returns-in-18 c = rw c.in-18.is c.read_look.ensures

pub returns-in-19 : goal.returns-in-19
unfolding body_kinds
returns-in-19 c = rw c.in-19.is c.read_look_ss.ensures

pub returns-in-20 : goal.returns-in-20
unfolding body_kinds
returns-in-20 c = rw c.in-20.is c.read_look_done.ensures

pub returns-in-21 : goal.returns-in-21
unfolding body_kinds
returns-in-21 c = rw c.in-21.is c.read_notify.ensures

pub returns-in-22 : goal.returns-in-22
unfolding body_kinds
returns-in-22 c = rw c.in-22.is c.read_pull.ensures

pub returns-in-23 : goal.returns-in-23
unfolding body_kinds
returns-in-23 c = rw c.in-23.is c.read_page.ensures

pub returns-in-24 : goal.returns-in-24
unfolding body_kinds
returns-in-24 c = rw c.in-24.is c.read_have.ensures

pub returns-in-25 : goal.returns-in-25
unfolding body_kinds
returns-in-25 c = rw c.in-25.is c.read_want.ensures

pub returns-in-26 : goal.returns-in-26
unfolding body_kinds
returns-in-26 c = rw c.in-26.is c.read_delta.ensures
