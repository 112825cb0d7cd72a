use Rattle.dts_base.proofs.AddressFacts.{parts, point, colon, behind}
use Rattle.dts_base.proofs.address.Address.parse.Goals as goal

pub returns-in_err-second : goal.returns-in_err-second
returns-in_err-second c = rw c.from_residual-in_err-second.ensures (record {
  spelled = λ a s.
      let p = parts c.args.text.now a s in
      let one = behind _ p.w 46 _ _ _ point c.in_ok-first.ensures.1 p.w_fits c.in_ok-first.ensures.0 p.whole in
      c.in_err-second.ensures p.x _ p.x_fits one;
})

pub returns-in_err-third : goal.returns-in_err-third
returns-in_err-third c = rw c.from_residual-in_err-third.ensures (record {
  spelled = λ a s.
      let p = parts c.args.text.now a s in
      let one = behind _ p.w 46 _ _ _ point c.in_ok-first.ensures.1 p.w_fits c.in_ok-first.ensures.0 p.whole in
      let two = behind _ p.x 46 _ _ _ point c.in_ok-second.ensures.1 p.x_fits c.in_ok-second.ensures.0 one in
      c.in_err-third.ensures p.y _ p.y_fits two;
})

pub returns-in_err-fourth : goal.returns-in_err-fourth
returns-in_err-fourth c = rw c.from_residual-in_err-fourth.ensures (record {
  spelled = λ a s.
      let p = parts c.args.text.now a s in
      let one = behind _ p.w 46 _ _ _ point c.in_ok-first.ensures.1 p.w_fits c.in_ok-first.ensures.0 p.whole in
      let two = behind _ p.x 46 _ _ _ point c.in_ok-second.ensures.1 p.x_fits c.in_ok-second.ensures.0 one in
      let three = behind _ p.y 46 _ _ _ point c.in_ok-third.ensures.1 p.y_fits c.in_ok-third.ensures.0 two in
      c.in_err-fourth.ensures p.z _ p.z_fits three;
})

pub returns-in_err-port : goal.returns-in_err-port
returns-in_err-port c = rw c.from_residual-in_err-port.ensures (record {
  spelled = λ a s.
      let p = parts c.args.text.now a s in
      let one = behind _ p.w 46 _ _ _ point c.in_ok-first.ensures.1 p.w_fits c.in_ok-first.ensures.0 p.whole in
      let two = behind _ p.x 46 _ _ _ point c.in_ok-second.ensures.1 p.x_fits c.in_ok-second.ensures.0 one in
      let three = behind _ p.y 46 _ _ _ point c.in_ok-third.ensures.1 p.y_fits c.in_ok-third.ensures.0 two in
      let four = behind _ p.z 58 _ _ _ colon c.in_ok-fourth.ensures.1 p.z_fits c.in_ok-fourth.ensures.0 three in
      c.in_err-port.ensures a.port s.1.2 s.1.3 four;
})
