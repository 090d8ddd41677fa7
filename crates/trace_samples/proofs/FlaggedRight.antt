-- The run of two sites with a conflict is lawful: each of its records comes as it may. All of it computes.
use Rattle.std.specs.Prelude.{◌≡◌, refl, true}
use Rattle.std.proofs.Common.{inl, inr}
use Rattle.schedule_lines.specs.Cluster.{config_of}
use Rattle.lawful_trace.specs.Lawful.{EachComes}
use Rattle.lawful_trace.specs.LineRows.{are_told}
use Rattle.lawful_trace.specs.Disks.{keeps_calls}
use Rattle.lawful_trace.specs.Samples.{first_of, IsRight}
use Rattle.trace_samples.specs.FlaggedRun.{flagged_run, flagged_lines, flagged_trace}

-- the first so many records come as they may

upto_1 : EachComes (config_of flagged_lines) flagged_lines (first_of 1 flagged_trace)
upto_1 = (record { consistent = record { ascending = refl; row = record { up = refl; outside = refl; new = refl; later = refl; same = inl refl; member = refl } }; placed = refl; asked = record { asked = refl } }, tt)

upto_2 : EachComes (config_of flagged_lines) flagged_lines (first_of 2 flagged_trace)
upto_2 = (record { consistent = record { ascending = refl; row = record { up = refl; outside = refl; new = refl; later = refl; same = inr refl; member = refl } }; placed = refl; asked = record { asked = refl } }, upto_1)

upto_3 : EachComes (config_of flagged_lines) flagged_lines (first_of 3 flagged_trace)
upto_3 = (record { consistent = record { ascending = refl; row = record { gives = refl; served = refl; whole = refl } }; placed = refl; asked = tt }, upto_2)

upto_4 : EachComes (config_of flagged_lines) flagged_lines (first_of 4 flagged_trace)
upto_4 = (record { consistent = record { ascending = refl; row = record { up = refl; idle = refl; numbered = refl } }; placed = refl; asked = record { asked = refl } }, upto_3)

upto_5 : EachComes (config_of flagged_lines) flagged_lines (first_of 5 flagged_trace)
upto_5 = (record { consistent = record { ascending = refl; row = record { opens = record { served = refl; step = record { accepted = _; named = refl; made_in = refl }; numbered = refl; asked = refl }; gives = refl; there = refl } }; placed = refl; asked = tt }, upto_4)

upto_6 : EachComes (config_of flagged_lines) flagged_lines (first_of 6 flagged_trace)
upto_6 = (record { consistent = record { ascending = refl; row = record { gives = refl; there = refl; step = record { call = _; owned = refl; step = record { accepted = _; named = refl; made_in = refl }; asked = refl } } }; placed = refl; asked = tt }, upto_5)

upto_7 : EachComes (config_of flagged_lines) flagged_lines (first_of 7 flagged_trace)
upto_7 = (record { consistent = record { ascending = refl; row = record { opens = record { served = refl; step = record { accepted = _; named = refl; made_in = refl }; numbered = refl; asked = refl }; gives = refl; there = refl } }; placed = refl; asked = tt }, upto_6)

upto_8 : EachComes (config_of flagged_lines) flagged_lines (first_of 8 flagged_trace)
upto_8 = (record { consistent = record { ascending = refl; row = record { epoch = _; inside = refl; instance = _; one = refl; at = refl; owes = refl; same = refl; above = refl; numbered = refl } }; placed = refl; asked = tt }, upto_7)

upto_9 : EachComes (config_of flagged_lines) flagged_lines (first_of 9 flagged_trace)
upto_9 = (record { consistent = record { ascending = refl; row = record { gives = refl; served = refl; step = record { call = _; owned = refl; step = record { accepted = _; named = refl; made_in = refl }; asked = refl } } }; placed = refl; asked = tt }, upto_8)

upto_10 : EachComes (config_of flagged_lines) flagged_lines (first_of 10 flagged_trace)
upto_10 = (record { consistent = record { ascending = refl; row = record { epoch = _; inside = refl; known = refl; for = refl; above = refl; shut = refl } }; placed = refl; asked = tt }, upto_9)

upto_11 : EachComes (config_of flagged_lines) flagged_lines (first_of 11 flagged_trace)
upto_11 = (record { consistent = record { ascending = refl; row = record { gives = refl; there = refl; step = record { call = _; owned = refl; step = record { accepted = _; named = refl; made_in = refl }; asked = refl } } }; placed = refl; asked = tt }, upto_10)

upto_12 : EachComes (config_of flagged_lines) flagged_lines (first_of 12 flagged_trace)
upto_12 = (record { consistent = record { ascending = refl; row = record { epoch = _; inside = refl; instance = _; one = refl; at = refl; owes = refl; same = refl; above = refl; numbered = refl } }; placed = refl; asked = tt }, upto_11)

upto_13 : EachComes (config_of flagged_lines) flagged_lines (first_of 13 flagged_trace)
upto_13 = (record { consistent = record { ascending = refl; row = record { gives = refl; served = refl; step = record { call = _; owned = refl; step = record { accepted = _; named = refl; made_in = refl }; asked = refl } } }; placed = refl; asked = tt }, upto_12)

upto_14 : EachComes (config_of flagged_lines) flagged_lines (first_of 14 flagged_trace)
upto_14 = (record { consistent = record { ascending = refl; row = record { caller = _; waits = refl; given = _; gives = refl; text = refl } }; placed = refl; asked = tt }, upto_13)

upto_15 : EachComes (config_of flagged_lines) flagged_lines (first_of 15 flagged_trace)
upto_15 = (record { consistent = record { ascending = refl; row = record { epoch = _; inside = refl; known = refl; for = refl; above = refl; shut = refl } }; placed = refl; asked = tt }, upto_14)

upto_16 : EachComes (config_of flagged_lines) flagged_lines (first_of 16 flagged_trace)
upto_16 = (record { consistent = record { ascending = refl; row = record { inside = refl } }; placed = refl; asked = record { cause = refl } }, upto_15)

upto_17 : EachComes (config_of flagged_lines) flagged_lines (first_of 17 flagged_trace)
upto_17 = (record { consistent = record { ascending = refl; row = record { up = refl; outside = refl; new = refl; later = refl; same = inl refl; member = refl } }; placed = refl; asked = record { asked = refl } }, upto_16)

upto_18 : EachComes (config_of flagged_lines) flagged_lines (first_of 18 flagged_trace)
upto_18 = (record { consistent = record { ascending = refl; row = record { inside = refl } }; placed = refl; asked = record { cause = refl } }, upto_17)

upto_19 : EachComes (config_of flagged_lines) flagged_lines (first_of 19 flagged_trace)
upto_19 = (record { consistent = record { ascending = refl; row = record { up = refl; outside = refl; new = refl; later = refl; same = inl refl; member = refl } }; placed = refl; asked = record { asked = refl } }, upto_18)

upto_20 : EachComes (config_of flagged_lines) flagged_lines (first_of 20 flagged_trace)
upto_20 = (record { consistent = record { ascending = refl; row = record { gives = refl; served = refl; whole = refl } }; placed = refl; asked = tt }, upto_19)

upto_21 : EachComes (config_of flagged_lines) flagged_lines (first_of 21 flagged_trace)
upto_21 = (record { consistent = record { ascending = refl; row = record { gives = refl; served = refl; whole = refl } }; placed = refl; asked = tt }, upto_20)

upto_22 : EachComes (config_of flagged_lines) flagged_lines (first_of 22 flagged_trace)
upto_22 = (record { consistent = record { ascending = refl; row = record { up = refl; idle = refl; numbered = refl } }; placed = refl; asked = record { asked = refl } }, upto_21)

upto_23 : EachComes (config_of flagged_lines) flagged_lines (first_of 23 flagged_trace)
upto_23 = (record { consistent = record { ascending = refl; row = record { up = refl; idle = refl; numbered = refl } }; placed = refl; asked = record { asked = refl } }, upto_22)

upto_24 : EachComes (config_of flagged_lines) flagged_lines (first_of 24 flagged_trace)
upto_24 = (record { consistent = record { ascending = refl; row = record { gives = refl; served = refl; step = record { accepted = _; named = refl; made_in = refl }; numbered = refl; asked = refl } }; placed = refl; asked = tt }, upto_23)

upto_25 : EachComes (config_of flagged_lines) flagged_lines (first_of 25 flagged_trace)
upto_25 = (record { consistent = record { ascending = refl; row = record { gives = refl; served = refl; step = record { accepted = _; named = refl; made_in = refl }; numbered = refl; asked = refl } }; placed = refl; asked = tt }, upto_24)

upto_26 : EachComes (config_of flagged_lines) flagged_lines (first_of 26 flagged_trace)
upto_26 = (record { consistent = record { ascending = refl; row = record { opens = record { served = refl; step = record { accepted = _; named = refl; made_in = refl }; numbered = refl; asked = refl }; gives = refl; there = refl } }; placed = refl; asked = tt }, upto_25)

upto_27 : EachComes (config_of flagged_lines) flagged_lines (first_of 27 flagged_trace)
upto_27 = (record { consistent = record { ascending = refl; row = record { opens = record { served = refl; step = record { accepted = _; named = refl; made_in = refl }; numbered = refl; asked = refl }; gives = refl; there = refl } }; placed = refl; asked = tt }, upto_26)

upto_28 : EachComes (config_of flagged_lines) flagged_lines (first_of 28 flagged_trace)
upto_28 = (record { consistent = record { ascending = refl; row = record { caller = _; waits = refl; given = _; gives = refl; text = refl } }; placed = refl; asked = tt }, upto_27)

upto_29 : EachComes (config_of flagged_lines) flagged_lines (first_of 29 flagged_trace)
upto_29 = (record { consistent = record { ascending = refl; row = record { caller = _; waits = refl; given = _; gives = refl; text = refl } }; placed = refl; asked = tt }, upto_28)

upto_30 : EachComes (config_of flagged_lines) flagged_lines (first_of 30 flagged_trace)
upto_30 = (record { consistent = record { ascending = refl; row = record { up = refl; idle = refl; numbered = refl } }; placed = refl; asked = record { asked = refl } }, upto_29)

upto_31 : EachComes (config_of flagged_lines) flagged_lines (first_of 31 flagged_trace)
upto_31 = (record { consistent = record { ascending = refl; row = record { up = refl; idle = refl; numbered = refl } }; placed = refl; asked = record { asked = refl } }, upto_30)

upto_32 : EachComes (config_of flagged_lines) flagged_lines (first_of 32 flagged_trace)
upto_32 = (record { consistent = record { ascending = refl; row = record { gives = refl; there = refl; step = record { call = _; owned = refl; step = record { accepted = _; named = refl; made_in = refl }; asked = refl } } }; placed = refl; asked = tt }, upto_31)

upto_33 : EachComes (config_of flagged_lines) flagged_lines (first_of 33 flagged_trace)
upto_33 = (record { consistent = record { ascending = refl; row = record { gives = refl; there = refl; step = record { call = _; owned = refl; step = record { accepted = _; named = refl; made_in = refl }; asked = refl } } }; placed = refl; asked = tt }, upto_32)

upto_34 : EachComes (config_of flagged_lines) flagged_lines (first_of 34 flagged_trace)
upto_34 = (record { consistent = record { ascending = refl; row = record { caller = _; waits = refl; given = _; gives = refl; text = refl } }; placed = refl; asked = tt }, upto_33)

upto_35 : EachComes (config_of flagged_lines) flagged_lines (first_of 35 flagged_trace)
upto_35 = (record { consistent = record { ascending = refl; row = record { caller = _; waits = refl; given = _; gives = refl; text = refl } }; placed = refl; asked = tt }, upto_34)

upto_36 : EachComes (config_of flagged_lines) flagged_lines (first_of 36 flagged_trace)
upto_36 = (record { consistent = record { ascending = refl; row = record { up = refl; idle = refl; numbered = refl } }; placed = refl; asked = record { asked = refl } }, upto_35)

upto_37 : EachComes (config_of flagged_lines) flagged_lines (first_of 37 flagged_trace)
upto_37 = (record { consistent = record { ascending = refl; row = record { up = refl; idle = refl; numbered = refl } }; placed = refl; asked = record { asked = refl } }, upto_36)

upto_38 : EachComes (config_of flagged_lines) flagged_lines (first_of 38 flagged_trace)
upto_38 = (record { consistent = record { ascending = refl; row = record { epoch = _; inside = refl; instance = _; one = refl; at = refl; owes = refl; same = refl; above = refl; numbered = refl } }; placed = refl; asked = tt }, upto_37)

upto_39 : EachComes (config_of flagged_lines) flagged_lines (first_of 39 flagged_trace)
upto_39 = (record { consistent = record { ascending = refl; row = record { epoch = _; inside = refl; instance = _; one = refl; at = refl; owes = refl; same = refl; above = refl; numbered = refl } }; placed = refl; asked = tt }, upto_38)

upto_40 : EachComes (config_of flagged_lines) flagged_lines (first_of 40 flagged_trace)
upto_40 = (record { consistent = record { ascending = refl; row = record { gives = refl; served = refl; step = record { call = _; owned = refl; step = record { accepted = _; named = refl; made_in = refl }; asked = refl } } }; placed = refl; asked = tt }, upto_39)

upto_41 : EachComes (config_of flagged_lines) flagged_lines (first_of 41 flagged_trace)
upto_41 = (record { consistent = record { ascending = refl; row = record { gives = refl; served = refl; step = record { call = _; owned = refl; step = record { accepted = _; named = refl; made_in = refl }; asked = refl } } }; placed = refl; asked = tt }, upto_40)

upto_42 : EachComes (config_of flagged_lines) flagged_lines (first_of 42 flagged_trace)
upto_42 = (record { consistent = record { ascending = refl; row = record { caller = _; waits = refl; given = _; gives = refl; text = refl } }; placed = refl; asked = tt }, upto_41)

upto_43 : EachComes (config_of flagged_lines) flagged_lines (first_of 43 flagged_trace)
upto_43 = (record { consistent = record { ascending = refl; row = record { caller = _; waits = refl; given = _; gives = refl; text = refl } }; placed = refl; asked = tt }, upto_42)

upto_44 : EachComes (config_of flagged_lines) flagged_lines (first_of 44 flagged_trace)
upto_44 = (record { consistent = record { ascending = refl; row = record { inside = refl } }; placed = refl; asked = record { cause = refl } }, upto_43)

upto_45 : EachComes (config_of flagged_lines) flagged_lines (first_of 45 flagged_trace)
upto_45 = (record { consistent = record { ascending = refl; row = record { inside = refl } }; placed = refl; asked = record { cause = refl } }, upto_44)

upto_46 : EachComes (config_of flagged_lines) flagged_lines (first_of 46 flagged_trace)
upto_46 = (record { consistent = record { ascending = refl; row = record { up = refl; outside = refl; new = refl; later = refl; same = inl refl; member = refl } }; placed = refl; asked = record { asked = refl } }, upto_45)

upto_47 : EachComes (config_of flagged_lines) flagged_lines (first_of 47 flagged_trace)
upto_47 = (record { consistent = record { ascending = refl; row = record { up = refl; outside = refl; new = refl; later = refl; same = inr refl; member = refl } }; placed = refl; asked = record { asked = refl } }, upto_46)

upto_48 : EachComes (config_of flagged_lines) flagged_lines (first_of 48 flagged_trace)
upto_48 = (record { consistent = record { ascending = refl; row = record { gives = refl; served = refl; whole = refl } }; placed = refl; asked = tt }, upto_47)

upto_49 : EachComes (config_of flagged_lines) flagged_lines (first_of 49 flagged_trace)
upto_49 = (record { consistent = record { ascending = refl; row = record { up = refl; idle = refl; numbered = refl } }; placed = refl; asked = record { asked = refl } }, upto_48)

upto_50 : EachComes (config_of flagged_lines) flagged_lines (first_of 50 flagged_trace)
upto_50 = (record { consistent = record { ascending = refl; row = record { gives = refl; served = refl; step = record { accepted = _; named = refl; made_in = refl }; numbered = refl; asked = refl } }; placed = refl; asked = tt }, upto_49)

upto_51 : EachComes (config_of flagged_lines) flagged_lines (first_of 51 flagged_trace)
upto_51 = (record { consistent = record { ascending = refl; row = record { opens = record { served = refl; step = record { accepted = _; named = refl; made_in = refl }; numbered = refl; asked = refl }; gives = refl } }; placed = refl; asked = tt }, upto_50)

upto_52 : EachComes (config_of flagged_lines) flagged_lines (first_of 52 flagged_trace)
upto_52 = (record { consistent = record { ascending = refl; row = record { caller = _; waits = refl; given = _; gives = refl; text = refl } }; placed = refl; asked = tt }, upto_51)

told : are_told flagged_lines flagged_trace ≡ true
told = refl

calls : keeps_calls (config_of flagged_lines) flagged_lines flagged_trace ≡ true
calls = refl

pub flagged_is_lawful : IsRight flagged_run
flagged_is_lawful = record { each = upto_52; told = told; calls = calls }
