-- What the code's login request asks.
use Rattle.packet.specs.declared.packets.Login.{Login}
use Rattle.account.specs.Logins.{Asked}

abbrev pub asked : Login → Asked
asked login =
    record {
      version = login.version.now;
      user = login.user.now;
      computer = login.computer.now;
      protocol = login.protocol.now;
      session = login.session;
      number = login.number;
    }
