use Rattle.std.proofs.Common.{sym, ap, ◌∙◌, length}
use Rattle.history_lock.proofs.Finishing.{same_value, has_slot, put_in, has_played, has_counted, number_after, has_finished}
use Rattle.history_lock.proofs.lock.HistoryLock.finish.Goals as goal

pub exchange-requires : goal.exchange-requires
exchange-requires g c = let t = has_slot g.T.Kept.history g.T.Kept.owner g.T.Kept.fixed g.T.Kept.marks c.args.seat.now.me c.requires.holding in (c.requires.table, (t.0, t.1))

pub note_count-requires-clause-played : goal.note_count-requires-clause-played
note_count-requires-clause-played g c =
    let K = g.T.Kept in let h = c.requires.holding in let out = c.exchange.ensures in let back = c.exchange-empty.ensures in let play = c.play-answer.ensures in
    let same = same_value K.history K.owner K.fixed K.marks c.args.seat.now.me h _ _ out.2 c.unwrap-kept.ensures in
    let seat = put_in K.history K.owner K.fixed K.marks c.args.seat.now.me c.exchange.new.seat.me c.exchange-empty.new.seat.me h _ _ out.3 back.3 in
    let p = has_played K.history K.owner K.fixed K.marks c.args.seat.now.me h _ _ _ _ same c.requires.number play.fixed play.grows _ seat in
    (p.0, c.count-point.ensures.0 ∙ ap (λ kept. length (K.history kept)) (sym p.1))

pub let_go-requires-clause-counted : goal.let_go-requires-clause-counted
let_go-requires-clause-counted g c =
    let K = g.T.Kept in let h = c.requires.holding in let out = c.exchange.ensures in let back = c.exchange-empty.ensures in let play = c.play-answer.ensures in
    let same = same_value K.history K.owner K.fixed K.marks c.args.seat.now.me h _ _ out.2 c.unwrap-kept.ensures in
    let seat = put_in K.history K.owner K.fixed K.marks c.args.seat.now.me c.exchange.new.seat.me c.exchange-empty.new.seat.me h _ _ out.3 back.3 in
    has_counted K.history K.owner K.fixed K.marks c.args.seat.now.me h _ _ _ _ same c.requires.number play.fixed play.grows _ _ seat c.note_count.ensures.counted

pub returns-clause-number : goal.returns-clause-number
returns-clause-number g c =
    let K = g.T.Kept in let h = c.requires.holding in let out = c.exchange.ensures in let back = c.exchange-empty.ensures in let play = c.play-answer.ensures in
    let same = same_value K.history K.owner K.fixed K.marks c.args.seat.now.me h _ _ out.2 c.unwrap-kept.ensures in
    let seat = put_in K.history K.owner K.fixed K.marks c.args.seat.now.me c.exchange.new.seat.me c.exchange-empty.new.seat.me h _ _ out.3 back.3 in
    number_after K.history K.owner K.fixed K.marks c.args.seat.now.me h _ _ _ _ same c.requires.number play.fixed play.grows _ _ _ seat c.note_count.ensures.counted c.let_go.ensures.released

pub returns-clause-played : goal.returns-clause-played
returns-clause-played g c =
    let K = g.T.Kept in let h = c.requires.holding in let out = c.exchange.ensures in let back = c.exchange-empty.ensures in let play = c.play-answer.ensures in
    let same = same_value K.history K.owner K.fixed K.marks c.args.seat.now.me h _ _ out.2 c.unwrap-kept.ensures in
    let seat = put_in K.history K.owner K.fixed K.marks c.args.seat.now.me c.exchange.new.seat.me c.exchange-empty.new.seat.me h _ _ out.3 back.3 in
    has_finished K.history K.owner K.fixed K.marks c.args.seat.now.me h _ _ _ _ same c.requires.number play.fixed play.grows K.plays _ _ _ _ _ _ play.plays c.count-point.ensures.0 seat c.note_count.ensures.counted c.let_go.ensures.released
