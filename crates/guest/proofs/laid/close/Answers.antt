-- `close` meets its contract: END, the reservations and the header are laid around the blocks.
use Rattle.guest.proofs.Closed.{closed_blob, closed_words}
use Rattle.guest.proofs.laid.close.Goals as goal

pub returns : goal.returns
returns c = closed_blob c.args.guest.now c.args.size c.requires c.put_word.new.d c.put_zeros.new.d c.words.new.data _ c.put_word.ensures c.put_zeros.ensures c.words.ensures (closed_words c.args.guest.now c.args.size c.requires _ _ _ _ c.low.ensures c.low-2.ensures c.low-3.ensures c.low-4.ensures)
