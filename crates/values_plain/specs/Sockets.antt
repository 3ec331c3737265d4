-- Addresses as the calls of the system take and give them.
use Rattle.std.specs.Prelude.{ℕ}
use Rattle.std.specs.declared.net.ip_addr.IpAddr.{IpAddr}
use Rattle.std.specs.declared.net.ip_addr.IpAddr.TheVariants.{V4, V6}
use Rattle.std.specs.declared.net.socket_addr.SocketAddr.{SocketAddr}
use Rattle.std.specs.Net.Addr.{ipv4_bits, IsIpv4OfBits, IsV4And}
use Rattle.std.specs.Net.Socket.{socket_ip}

-- the socket's address is IPv4, and its four octets are this number, the first octet highest
abbrev pub IsIpOf : SocketAddr → ℕ → Type 0
IsIpOf s ip = IsV4And (socket_ip s) (λ a. IsIpv4OfBits a ip)

-- the number of an IPv4 address; 0 for an IPv6 address, which an IPv4 socket never has
abbrev pub ip_number : IpAddr → ℕ
ip_number (V4 a) = ipv4_bits a
ip_number (V6 _) = 0

-- the number of a socket's address
abbrev pub ip_of : SocketAddr → ℕ
ip_of s = ip_number (socket_ip s)
