use Rattle.std.proofs.Common.{◌≡◌, ◌+◌, ◌-◌, ◌*◌, ap, arith, take, drop}
use Rattle.text_pages.proofs.PutWalks.{all_taken}
use Rattle.text_pages.proofs.putting.piece.Goals as goal

pub returns-then-bytes-start-lt-PIECE_MOST-clause-bytes : goal.returns-then-bytes-start-lt-PIECE_MOST-clause-bytes
returns-then-bytes-start-lt-PIECE_MOST-clause-bytes c = all_taken (c.args.number * 4074) c.args.bytes.now (omega arith)

pub returns-clause-bytes : goal.returns-clause-bytes
returns-clause-bytes c =
    let size : c.args.number * 4074 + 4074 - c.args.number * 4074 ≡ 4074 = omega arith in ap (λ n. take n (drop (c.args.number * 4074) c.args.bytes.now)) size
