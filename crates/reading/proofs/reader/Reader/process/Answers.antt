use Rattle.std.proofs.Common.{refl, sym, ◌∙◌, rules}
use Rattle.reading.specs.Formats.{signed}
use Rattle.reading.specs.Layout.{timer_format}
use Rattle.reading.proofs.Chains.{after-got, after-bad, read, refused, exit}
use Rattle.reading.proofs.Heads.{headed}
use Rattle.reading.proofs.reader.Reader.process.Goals as goal

pub returns-in_err-head-clause-reads : goal.returns-in_err-head-clause-reads
returns-in_err-head-clause-reads c =
    let s = c.args.self.now in
    let bs = s.bytes.now in
    exit c.head.ensures.reads c.in_err-head.was c.from_residual.ensures.1 refl
    (headed bs s.place ∙ rw (refused bs c.head.ensures.reads c.in_err-head.was refl, after-bad))

pub returns-in_err-read_first-clause-reads : goal.returns-in_err-read_first-clause-reads
returns-in_err-read_first-clause-reads c =
    let s = c.args.self.now in
    let bs = s.bytes.now in
    let values = c.read_first.ensures.reads signed (λ s r t k. search rules) in
    let b = c.head.ensures.reads.same in
    exit values c.in_err-read_first.was c.from_residual-in_err-read_first.ensures.1 b
    (headed bs s.place ∙ rw (read bs c.head.ensures.reads c.in_ok-head.was refl, after-got, refused bs values c.in_err-read_first.was b, after-bad))

pub returns-in_err-read_first-2-clause-reads : goal.returns-in_err-read_first-2-clause-reads
returns-in_err-read_first-2-clause-reads c =
    let s = c.args.self.now in
    let bs = s.bytes.now in
    let values = c.read_first.ensures.reads signed (λ s r t k. search rules) in
    let settings = c.read_first-2.ensures.reads timer_format (λ s r t k. search rules) in
    let b = c.head.ensures.reads.same in
    let d = values.same ∙ b in
    exit settings c.in_err-read_first-2.was c.from_residual-in_err-read_first-2.ensures.1 d
    (headed bs s.place ∙ rw (read bs c.head.ensures.reads c.in_ok-head.was refl, after-got, read bs values c.in_ok-read_first.was b, after-got, refused bs settings c.in_err-read_first-2.was d, after-bad))

pub returns-clause-reads : goal.returns-clause-reads
returns-clause-reads c =
    let s = c.args.self.now in
    let bs = s.bytes.now in
    let values = c.read_first.ensures.reads signed (λ s r t k. search rules) in
    let settings = c.read_first-2.ensures.reads timer_format (λ s r t k. search rules) in
    let b = c.head.ensures.reads.same in
    let d = values.same ∙ b in
    record {
      value = sym (headed bs s.place ∙ rw (read bs c.head.ensures.reads c.in_ok-head.was refl, after-got, read bs values c.in_ok-read_first.was b, after-got, read bs settings c.in_ok-read_first-2.was d, after-got));
      same = settings.same ∙ d;
      stays = tt;
    }
