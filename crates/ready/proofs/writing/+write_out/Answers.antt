-- What an arm asks and gives, by the construct that was read: the record's number falls.
use Rattle.std.proofs.Common.{rules, arith}
use Rattle.files.specs.Rule.{node_in}
use Rattle.ready.proofs.Rooms.{room_put, silent, event, one, notify, two}
use Rattle.ready.proofs.writing.+write_out.Goals as goal

pub put-requires : goal.put-requires
put-requires t c = (room_put c.requires, omega arith)

pub put-requires-in-Event : goal.put-requires-in-Event
put-requires-in-Event t c = let room = room_put c.requires in search rules

pub write_out-requires : goal.write_out-requires
unfolding node_in
write_out-requires t c =
    let a = notify c.requires c.node_at-node.ensures c.in-Notify.is in (omega arith, a.part.room)

pub put_whole-requires : goal.put_whole-requires
unfolding node_in
put_whole-requires t c =
    let a = notify c.requires c.node_at-node.ensures c.in-Notify.is in let p = a.part.put c.write_out.ensures in
    search rules

pub write_out-requires-in-Either : goal.write_out-requires-in-Either
unfolding node_in
write_out-requires-in-Either t c =
    let a = two c.requires c.node_at-node.ensures c.in-Either.is in (omega arith, a.first.room)

pub write_out-requires-in-Either-2 : goal.write_out-requires-in-Either-2
unfolding node_in
write_out-requires-in-Either-2 t c =
    let a = two c.requires c.node_at-node.ensures c.in-Either.is in let b = a.second c.write_out-in-Either.ensures in
    (omega arith, b.room)

pub put_whole-requires-in-Either : goal.put_whole-requires-in-Either
unfolding node_in
put_whole-requires-in-Either t c =
    let a = two c.requires c.node_at-node.ensures c.in-Either.is in let p = a.first.put c.write_out-in-Either.ensures in
    let q = (a.second c.write_out-in-Either.ensures).put c.write_out-in-Either-2.ensures in
    search rules

pub write_out-requires-in-Not : goal.write_out-requires-in-Not
unfolding node_in
write_out-requires-in-Not t c = let a = one c.requires c.node_at-node.ensures c.in-Not.is in (omega arith, a.part.room)

pub put_whole-requires-in-Not : goal.put_whole-requires-in-Not
unfolding node_in
put_whole-requires-in-Not t c =
    let a = one c.requires c.node_at-node.ensures c.in-Not.is in let p = a.part.put c.write_out-in-Not.ensures in
    search rules

pub returns-in-Silent : goal.returns-in-Silent
unfolding node_in
returns-in-Silent t c = silent c.requires c.node_at-node.ensures c.in-Silent.is (rw (← c.kind_of-kind.ensures) c.put.ensures)

pub returns-in-Event : goal.returns-in-Event
unfolding node_in
returns-in-Event t c =
    event c.requires c.node_at-node.ensures c.in-Event.is (rw (← c.kind_of-kind.ensures, ← c.from.ensures) c.put-in-Event.ensures)

pub returns-in-Notify : goal.returns-in-Notify
unfolding node_in
returns-in-Notify t c =
    let a = notify c.requires c.node_at-node.ensures c.in-Notify.is in
    a.done c.write_out.ensures (rw (← c.kind_of-kind.ensures, ← c.from-in-Notify.ensures) c.put_whole.ensures)

pub returns-in-Either : goal.returns-in-Either
unfolding node_in
returns-in-Either t c =
    let a = two c.requires c.node_at-node.ensures c.in-Either.is in
    a.done c.write_out-in-Either.ensures c.write_out-in-Either-2.ensures (rw (← c.kind_of-kind.ensures) c.put_whole-in-Either.ensures)

pub returns-in-Not : goal.returns-in-Not
unfolding node_in
returns-in-Not t c =
    let a = one c.requires c.node_at-node.ensures c.in-Not.is in
    a.done c.write_out-in-Not.ensures (rw (← c.kind_of-kind.ensures) c.put_whole-in-Not.ensures)
